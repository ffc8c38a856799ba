use Rattle.std.proofs.Common.{◌≡◌, ◌∙◌, ◌<◌, ap, sym, refl, arith, min}
use Rattle.std.proofs.Math.Numerals.{add-one}
use Rattle.arith.specs.Sum.{sum}
use Rattle.arith.specs.Part.{pos_part, neg_part}
use Rattle.arith.proofs.Sums.{sum-suc}
use Rattle.layout.specs.Contents.{rect}
use Rattle.grid.specs.Grid.{area_sum}
use Rattle.grid.proofs.Entries.{taken, area_slots}
use Rattle.grid.proofs.areas.area_sums.Goals as goal

pub loop-r-init : goal.loop-r-init
unfolding sum area_sum
loop-r-init c = record { high = refl; low = refl; high_small = omega arith; low_small = omega arith }

pub loop-r-preserved : goal.loop-r-preserved
unfolding area_sum
loop-r-preserved c =
    let t = c.args.t.now in
    let i = c.loop-r.invariant in
    let n : c.loop-r.r-index < t.count = (let h = c.loop-r-test.true in let f = c.rects-r-items.ensures.fits in omega arith) in
    let e = taken t c.loop-r.r-index c.rects-r-items.ensures.items n in
    let v = rw e at c.share-part.ensures.high_value in
    let high = v.0 in
    let low = v.1 in
    let b = c.share-part.ensures.high_bound in
    record {
      high = rw (add-one, sum-suc) (omega (arith, i.high, high));
      low = rw (add-one, sum-suc) (omega (arith, i.low, low));
      high_small = omega (arith, i.high_small, b.0);
      low_small = omega (arith, i.low_small, b.1);
    }

pub returns : goal.returns
returns c =
    let t = c.args.t.now in
    let i = c.loop-r.invariant in
    let f = c.rects-r-items.ensures.fits in
    let m = c.loop-r.auto.r-index-end in
    let h = c.loop-r-test.false in
    let n : c.loop-r.r-index ≡ min t.count 16 = omega arith in
    let s = c.rects-r-items.ensures.items in
    record {
      high_value = (
        i.high ∙ ap (λ k. area_sum pos_part k (rect t)) n ∙ sym (area_slots t s f pos_part refl),
        i.low ∙ ap (λ k. area_sum neg_part k (rect t)) n ∙ sym (area_slots t s f neg_part refl),
      );
      high_le_sum_most = (omega (arith, i.high_small), omega (arith, i.low_small));
    }
