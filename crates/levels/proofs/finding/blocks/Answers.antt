-- `levels::blocks` adds block after block while the sum stays below the rank.
-- Assumes nothing.
use Rattle.std.proofs.Common.{◌+◌, ◌≤◌, arith, ◌≡◌, refl, length, rules}
use Rattle.arith.specs.Sum.{sum}
use Rattle.arith.proofs.Parts.{part, part_at}
use Rattle.arith.proofs.Sums.{sum_cong, sum_split, sum_bound}
use Rattle.levels.specs.Levels.{count_of}
use Rattle.levels.proofs.finding.blocks.Goals as goal

pub loop-at-init : goal.loop-at-init
unfolding sum
loop-at-init c = (refl, record { in_list = search rules; is = refl; less = c.requires.ranked })

pub overflow_add-more : goal.overflow_add-more
overflow_add-more c =
    let block-is : sum 16 (count_of (part c.loop-at.at 16 c.args.counts.now)) ≡ sum 16 (λ k. count_of c.args.counts.now (c.loop-at.at + k)) = sum_cong 16 (part_at c.loop-at.at 16 c.args.counts.now) in
    let room : c.loop-at.at + 16 ≤ length c.args.counts.now = let t = c.loop-at-test.true in let b = c.loop-at.invariant.1.in_list in omega arith in
    let p = c.requires in
    let f = count_of c.args.counts.now in
    let b = c.loop-at.invariant.1 in
    let e = b.is in
    let n = b.in_list in
    let m = sum_bound c.loop-at.at 4095 {f = f} (λ k h. p.small k (omega arith)) in
    let few = p.few in
    let o = block-is in
    let q = c.block.ensures in
    let w = sum_bound 16 4095 {f = λ k. f (c.loop-at.at + k)} (λ k h. p.small (c.loop-at.at + k) (let r = room in omega arith)) in
    record { fits = omega arith }

pub returns-then-rank-more : goal.returns-then-rank-more
returns-then-rank-more c =
    let block-is : sum 16 (count_of (part c.loop-at.at 16 c.args.counts.now)) ≡ sum 16 (λ k. count_of c.args.counts.now (c.loop-at.at + k)) = sum_cong 16 (part_at c.loop-at.at 16 c.args.counts.now) in
    let at = c.loop-at.at in
    let e = sum_split at 16 (count_of c.args.counts.now) in
    let o = block-is in
    let q = c.block.ensures in
    let b = c.loop-at.invariant.1 in
    let s = b.is in
    let t = c.if-rank-more.true in
    record { passed = b; reached = λ h. omega arith }

pub loop-at-preserved : goal.loop-at-preserved
loop-at-preserved c =
    let block-is : sum 16 (count_of (part c.loop-at.at 16 c.args.counts.now)) ≡ sum 16 (λ k. count_of c.args.counts.now (c.loop-at.at + k)) = sum_cong 16 (part_at c.loop-at.at 16 c.args.counts.now) in
    let room : c.loop-at.at + 16 ≤ length c.args.counts.now = let t = c.loop-at-test.true in let b = c.loop-at.invariant.1.in_list in omega arith in
    let at = c.loop-at.at in
    let f = count_of c.args.counts.now in
    let e = sum_split at 16 f in
    let o = block-is in
    let q = c.block.ensures in
    let b = c.loop-at.invariant.1.is in
    let r = room in
    (refl, record { in_list = r; is = omega arith; less = c.if-rank-more.false })
