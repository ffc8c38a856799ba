use Rattle.std.proofs.Common.{◌≡◌, ◌∙◌, ◌<◌, ap, refl, arith, min}
use Rattle.std.proofs.Math.Numerals.{add-one}
use Rattle.arith.specs.Sum.{sum}
use Rattle.arith.specs.Part.{pos_part, neg_part}
use Rattle.arith.proofs.Sums.{sum-suc}
use Rattle.layout.specs.Contents.{rect}
use Rattle.grid.proofs.Entries.{taken, laid, grid_parts, grid_slots}
use Rattle.grid.proofs.weights.entry.Goals as goal

pub loop-d-init : goal.loop-d-init
unfolding sum
loop-d-init c = record { high = refl; low = refl; high_small = omega arith; low_small = omega arith }

pub loop-d-preserved : goal.loop-d-preserved
loop-d-preserved c =
    let t = c.args.t.now in
    let i = c.loop-d.invariant in
    let n : c.loop-d.d-index < t.count = (let h = c.loop-d-test.true in let f = c.rects-d-items.ensures.fits in omega arith) in
    let e = taken t c.loop-d.d-index c.rects-d-items.ensures.items n in
    let v = rw e at c.entry_share-part.ensures.high_value in
    let high = v.0 in
    let low = v.1 in
    let b = c.entry_share-part.ensures.high_le_weight_most in
    record {
      high = rw (add-one, sum-suc) (omega (arith, i.high, high));
      low = rw (add-one, sum-suc) (omega (arith, i.low, low));
      high_small = omega (arith, i.high_small, b.0);
      low_small = omega (arith, i.low_small, b.1);
    }

pub returns-clause-diff : goal.returns-clause-diff
returns-clause-diff c =
    let t = c.args.t.now in
    let a = c.args.a in
    let b = c.args.b in
    let i = c.loop-d.invariant in
    let f = c.rects-d-items.ensures.fits in
    let m = c.loop-d.auto.d-index-end in
    let h = c.loop-d-test.false in
    let n : c.loop-d.d-index ≡ min t.count 16 = omega arith in
    let high = i.high ∙ ap (λ k. laid pos_part k (rect t) a b) n in
    let low = i.low ∙ ap (λ k. laid neg_part k (rect t) a b) n in
    rw (high, low, grid_slots t c.rects-d-items.ensures.items f a b) (grid_parts (min t.count 16) (rect t) a b)
