use Rattle.std.proofs.Common.{◌≡◌, ◌∙◌, ◌<◌, ap, refl, arith}
use Rattle.std.proofs.Math.Numerals.{add-one}
use Rattle.arith.specs.Part.{pos_part, neg_part}
use Rattle.arith.specs.Sum.{sum}
use Rattle.arith.proofs.Sums.{sum-suc}
use Rattle.limits.proofs.Granted.{granted}
use Rattle.grid.proofs.Entries.{taken}
use Rattle.rule.specs.Accuracy.{loss_under}
use Rattle.figures.proofs.Bounds.{head_tests, loss_most_lem}
use Rattle.figures.proofs.losses.loss_sums.Invariants.{weighed}
use Rattle.figures.proofs.losses.loss_sums.Goals as goal

pub loop-r-init : goal.loop-r-init
unfolding sum
loop-r-init c = record { low = refl; high = refl; low_small = omega arith; high_small = omega arith }

pub share-part-requires-clause-within_limits : goal.share-part-requires-clause-within_limits
share-part-requires-clause-within_limits c = head_tests c.args.t.now c.requires

pub share-part-requires-clause-small : goal.share-part-requires-clause-small
share-part-requires-clause-small c =
    let t = c.args.t.now in
    let n : c.loop-r.r-index < t.count = (let h = c.loop-r-test.true in let f = c.rects-r-items.ensures.fits in omega arith) in
    rw (taken t c.loop-r.r-index c.rects-r-items.ensures.items n) (loss_most_lem (granted t c.requires) c.loop-r.r-index n)

pub loop-r-preserved : goal.loop-r-preserved
loop-r-preserved c =
    let t = c.args.t.now in
    let i = c.loop-r.invariant in
    let n : c.loop-r.r-index < t.count = (let h = c.loop-r-test.true in let f = c.rects-r-items.ensures.fits in omega arith) in
    let v = rw (taken t c.loop-r.r-index c.rects-r-items.ensures.items n) at c.share-part.ensures.below_value in
    let low = v.0 in
    let high = v.1 in
    let b = c.share-part.ensures.below_le_share_most in
    record {
      low = rw (add-one, sum-suc) (omega (arith, i.low, low));
      high = rw (add-one, sum-suc) (omega (arith, i.high, high));
      low_small = omega (arith, i.low_small, b.0);
      high_small = omega (arith, i.high_small, b.1);
    }

pub returns : goal.returns
unfolding loss_under
returns c =
    let t = c.args.t.now in
    let i = c.loop-r.invariant in
    let w = (granted t c.requires).few in
    let f = c.rects-r-items.ensures.fits in
    let m = c.loop-r.auto.r-index-end in
    let h = c.loop-r-test.false in
    let e : c.loop-r.r-index ≡ t.count = omega arith in
    record {
      below_value = (i.low ∙ ap (λ n. sum n (weighed neg_part t)) e, i.high ∙ ap (λ n. sum n (weighed pos_part t)) e);
      below_le_shares_most = (omega (arith, i.low_small), omega (arith, i.high_small));
    }
