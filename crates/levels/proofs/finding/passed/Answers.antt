-- `levels::passed` adds count after count and counts the levels whose sum is below the rank: sums only grow, so that these are the first ones.
-- Assumes nothing.
use Prim.Native.Nat.{◌+◌}
use native.Mathlib.Omega.{arith}
use mathlib.Core.Path.{◌≡◌, refl, ap, ◌∙◌}
use lib.Dec.{ltb}
use Rattle.arith.specs.Sum.{sum}
use Rattle.arith.specs.First.{first_not}
use Rattle.arith.proofs.Sums.{sum-suc, sum_bound}
use Rattle.levels.specs.Levels.{count_of, up_to}
use native.Mathlib.Numerals.{add-one}
use Rattle.arith.proofs.Firsts.{first_most}
use Rattle.levels.proofs.Ranks.{passes, stays}
use borrow.Author.Rules.{rules}
use Rattle.levels.proofs.finding.passed.Goals as goal
use Rattle.levels.proofs.finding.passed.Goals.{then-sum-rank, else-sum-rank}

pub loop-count-init : goal.loop-count-init
unfolding sum first_not
loop-count-init c = ((let e : c.args.before ≡ c.args.before + 0 = omega arith in e), refl)

pub overflow_add-sum : goal.overflow_add-sum
overflow_add-sum c = let p = c.requires in
    let b = c.loop-count.invariant in
    let e = b.0 in
    let few = p.few in
    let big = p.before_most in
    let m = sum_bound c.loop-count.count-index 4095 {f = count_of c.args.counts.now} (λ k h. p.small k (omega arith)) in
    let k = p.small c.loop-count.count-index (omega arith) in
    record { fits = omega arith }

pub overflow_add-low : goal.overflow_add-low
overflow_add-low c = let e = c.loop-count.invariant.1 in
    let few = c.requires.few in
    let m = first_most c.loop-count.count-index (λ k. ltb (c.args.before + up_to (count_of c.args.counts.now) k) c.args.rank) in
    search (rules, m, e, few)

pub loop-count-preserved : goal.loop-count-preserved
loop-count-preserved c = let i = c.loop-count.count-index in
    let a = c.args in
    let f = count_of a.counts.now in
    let low = c.loop-count.invariant.1 in
    let s = c.loop-count.invariant.0 in
    let m = sum-suc i f in (
      rw (add-one i) (omega arith),
      rw (add-one i) (elim c.if-sum-rank.branch [
        | then-sum-rank w ↦ w.low-is ∙ ap (λ k. k + 1) low ∙ passes f a.before a.rank i (omega arith)
        | else-sum-rank w ↦ w.low-is ∙ low ∙ stays f a.before a.rank i (omega arith)
      ]),
    )
