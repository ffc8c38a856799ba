-- `histograms::column` lends the part of the store where the column's counts stand, or zeros left and right of the row.
-- Assumes nothing.
use Prim.Native.Nat.{◌+◌, ◌-◌, ◌*◌, ◌≤◌}
use native.Mathlib.Omega.{arith}
use mathlib.Core.Path.{refl, ◌∙◌}
use lib.ListN.{length}
use borrow.Author.Tests.{lt-ltb, le-ltb}
use Rattle.arith.proofs.Ints.{sub_low, sub_high}
use Rattle.arith.proofs.Parts.{line_end_lem, part-tab}
use Rattle.arith.proofs.Tabs.{tab_cong}
use Rattle.histograms.specs.Windows.{column_count}
use Rattle.histograms.proofs.Zero.{zeros_first}
use Rattle.histograms.proofs.windows.Band.column.Goals as goal

pub returns-then-k-back : goal.returns-then-k-back
unfolding column_count
returns-then-k-back c = let a = c.args in
    zeros_first c.requires.dark a.self.span.levels c.requires.span.few (λ u. rw (sub_low a.k a.back c.if-k-back.true) refl)

pub returns-then-self-j : goal.returns-then-self-j
unfolding column_count
returns-then-self-j c = let a = c.args in
    zeros_first c.requires.dark a.self.span.levels c.requires.span.few
    (λ u. rw (sub_high a.k a.back c.if-k-back.false, le-ltb (a.k - a.back) a.self.span.width c.if-self-j.true) refl)

pub returns : goal.returns
unfolding column_count
returns c =
    let ends : (c.args.k - c.args.back) * 256 + c.args.self.span.levels ≤ length c.args.self.counts.now = let e = line_end_lem (c.args.k - c.args.back) _ 256 _ c.if-self-j.false c.requires.span.counts_long in
    let f = c.requires.span.few in
    omega arith in
    let a = c.args in
    part-tab ((a.k - a.back) * 256) a.self.span.levels a.self.counts.now (ends)
    ∙ tab_cong a.self.span.levels (λ u h. rw (sub_high a.k a.back c.if-k-back.false, lt-ltb (a.k - a.back) a.self.span.width c.if-self-j.false) refl)
