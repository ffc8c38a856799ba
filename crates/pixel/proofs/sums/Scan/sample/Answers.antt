-- A place of the frame is one of the scan, or outside it and 0.
use Rattle.std.proofs.Common.{◌-◌, ◌*◌, ◌+◌, arith, refl, sym, ap, ◌∙◌, get_or, le-ltb, lt-ltb, rules}
use Rattle.std.proofs.Math.ListN.{get_or-eq_default}
use Rattle.arith.proofs.Ints.{sub_low, sub_high}
use Rattle.rule.specs.Sums.{sample_at}
use Rattle.rule.specs.Mended.{mended_at}
use Rattle.rule.proofs.Mended.{mended_zero}
use Rattle.pixel.proofs.sums.Scan.sample.Goals as goal

pub returns-then-row-lt128 : goal.returns-then-row-lt128
unfolding sample_at
returns-then-row-lt128 c = rw (sub_low c.args.row 128 c.if-row-lt128.true) refl

pub returns-then-col-lt128 : goal.returns-then-col-lt128
unfolding sample_at
returns-then-col-lt128 c = let a = c.args in
    rw (sub_high a.row 128 c.if-row-lt128.false, sub_low a.col 128 c.if-col-lt128.true) refl

pub returns-then-self-col : goal.returns-then-self-col
unfolding sample_at
returns-then-self-col c = let a = c.args in
    rw (sub_high a.row 128 c.if-row-lt128.false, sub_high a.col 128 c.if-col-lt128.false, le-ltb _ _ c.if-self-col.true) refl

pub returns-then-self-at : goal.returns-then-self-at
unfolding sample_at
returns-then-self-at c = let a = c.args in
    let beyond = get_or-eq_default a.self.now.samples.now 0 {n = (a.row - 128) * a.self.now.width + (a.col - 128)} (search rules) in
    rw (sub_high a.row 128 c.if-row-lt128.false, sub_high a.col 128 c.if-col-lt128.false, lt-ltb _ _ c.if-self-col.false)
    (sym (mended_zero (λ k. get_or a.self.now.samples.now ((a.row - 128) * a.self.now.width + k) 0) (a.col - 128) beyond))

pub returns : goal.returns
unfolding sample_at
returns c = let a = c.args in
    rw (sub_high a.row 128 c.if-row-lt128.false, sub_high a.col 128 c.if-col-lt128.false, lt-ltb _ _ c.if-self-col.false) (c.live.ensures ∙ ap (mended_at (λ k. get_or a.self.now.samples.now ((a.row - 128) * a.self.now.width + k) 0)) (omega arith))
