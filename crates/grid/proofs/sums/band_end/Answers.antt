use Rattle.std.proofs.Common.{◌∙◌, ◌<◌, sym, arith, rules, min, to_z-of_z, to_z, of_z, FitsSigned, w8}
use Rattle.arith.proofs.Alls.{up_to}
use Rattle.layout.specs.Contents.{rect}
use Rattle.grid.specs.Lines.{SameSide}
use Rattle.grid.proofs.Offsets.{side_within, covers_alike}
use Rattle.grid.proofs.Bands.{grid_alike}
use Rattle.grid.proofs.Entries.{taken, grid_slots}
use Rattle.grid.proofs.sums.band_end.Invariants.{Unbroken}
use Rattle.grid.proofs.sums.band_end.Goals as goal

pub loop-d-preserved : goal.loop-d-preserved
loop-d-preserved c =
    let t = c.args.t.now in
    let a = c.args.a in
    let k = c.loop-d.d-index in
    let i = c.loop-d.invariant in
    let n : k < t.count = (let h = c.loop-d-test.true in let f = c.rects-d-items.ensures.fits in omega arith) in
    let e = taken t k c.rects-d-items.ensures.items n in
    let p = c.cut_at-end.ensures in
    let q = c.cut_at-end-in-loop-d.ensures in
    let r = c.cut_at-end-in-loop-d.result in
    let x : SameSide (to_z w8 (of_z w8 (rect t k).leadrow)) a c.cut_at-end.result = rw e at p.same_side in
    let y : SameSide (to_z w8 (of_z w8 (rect t k).trailrow)) a r = rw e at q.same_side in
    let f : FitsSigned w8 (rect t k).leadrow = search rules in
    let g : FitsSigned w8 (rect t k).trailrow = search rules in
    let lead = side_within r q.lower_bound.1 (rw (to_z-of_z {w = w8} f) at x) in
    let trail = rw (to_z-of_z {w = w8} g) at y in
    record {
      some = q.lower_bound.0;
      most = omega (arith, i.most, p.lower_bound.1, q.lower_bound.1);
      unbroken =
          up_to {P = Unbroken t a r} k
          (λ j h. let u = i.unbroken j h in (side_within r (omega (arith, p.lower_bound.1, q.lower_bound.1)) u.0, side_within r (omega (arith, p.lower_bound.1, q.lower_bound.1)) u.1))
          (lead, trail);
    }

pub returns-clause-by_index : goal.returns-clause-by_index
returns-clause-by_index c =
    let t = c.args.t.now in
    let i = c.loop-d.invariant in
    let f = c.rects-d-items.ensures.fits in
    let m = c.loop-d.auto.d-index-end in
    let h = c.loop-d-test.false in
    λ d g j b.
    grid_slots t c.rects-d-items.ensures.items f d b
    ∙ grid_alike (min t.count 16) (rect t) d c.args.a (λ k l. let u = i.unbroken k (omega arith) in covers_alike u.0 u.1 d g j) b
    ∙ sym (grid_slots t c.rects-d-items.ensures.items f c.args.a b)
