-- `levels::block` adds the counts passed; sixteen of at most 4,095 fit 16 bits.
-- Assumes nothing.
use Rattle.std.proofs.Common.{refl, add-one, arith}
use Rattle.arith.specs.Sum.{sum}
use Rattle.arith.proofs.Sums.{sum-suc, sum_bound}
use Rattle.levels.specs.Levels.{count_of}
use Rattle.levels.proofs.finding.block.Goals as goal

pub loop-count-init : goal.loop-count-init
unfolding sum
loop-count-init c = refl

pub overflow_add-sum : goal.overflow_add-sum
overflow_add-sum c = let p = c.requires in
    let n = p.0 in
    let k = c.loop-count.count-index in
    let m = sum_bound k 4095 {f = count_of c.args.counts.now} (λ k h. p.1 k (omega arith)) in
    let x = p.1 k (omega arith) in
    let e = c.loop-count.invariant in
    record { fits = omega arith }

pub loop-count-preserved : goal.loop-count-preserved
loop-count-preserved c = let k = c.loop-count.count-index in
    rw (add-one k, sum-suc k (count_of c.args.counts.now), c.loop-count.invariant) refl
