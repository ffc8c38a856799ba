-- The cut samples of a column are added up; the invariant is the sum of those passed and its bound.
use Rattle.std.proofs.Math.Pow.{shr_le}
use Rattle.std.proofs.Common.{add-one, refl, ap, ap₂, ◌∙◌, ◌+◌, ◌/◌, ◌^◌, rules}
use Rattle.arith.proofs.Sums.{sum-suc}
use Rattle.arith.specs.Sum.{sum}
use Rattle.pixel.proofs.sums.Scan.column_sum.Goals as goal

pub loop-i-init : goal.loop-i-init
unfolding sum
loop-i-init c = record { so_far = refl; small = search rules }

pub loop-i-preserved : goal.loop-i-preserved
loop-i-preserved c =
    let l = shr_le c.sample.result c.args.q1 in
    let h = c.loop-i.invariant in
    let e = c.from-s.ensures ∙ ap (λ x. x / 2 ^ c.args.q1) c.sample.ensures in
    record { so_far = rw (add-one, sum-suc) (ap₂ ◌+◌ h.so_far e); small = (let m = h.small in let f = c.from-s.ensures in search (rules, l, m, f)) }
