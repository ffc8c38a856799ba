-- `histograms::lane_of`: columns left of the row, right of it, or in it.
-- Assumes nothing.
use Rattle.std.proofs.Common.{refl, arith}
use mathlib.Core.Logic.{inl, inr}
use Rattle.arith.proofs.Parts.{tail_is}
use Rattle.histograms.proofs.Runs.{lane_inside, lane_outside}
use Rattle.histograms.proofs.windows.Band.lane_of.Goals as goal

pub returns-then-k-back : goal.returns-then-k-back
returns-then-k-back c = let a = c.args in
    let m = c.min.ensures in
    lane_outside a.self.span c.requires.span c.requires.dark a.k a.back a.most _ (λ h. omega arith) (omega arith) (λ i h. inl (omega arith)) refl

pub returns-then-width-j : goal.returns-then-width-j
returns-then-width-j c = let a = c.args in
    lane_outside a.self.span c.requires.span c.requires.dark a.k a.back a.most _ (λ h. h) (omega arith) (λ i h. inr (omega arith)) refl

pub returns : goal.returns
returns c = let a = c.args in
    let m = c.min-2.ensures in
    lane_inside a.self.span c.requires.span c.requires.dark a.k a.back a.most _ (omega arith) (λ h. omega arith) (omega arith) (omega arith) (tail_is _ a.self.counts.now)
