use Rattle.std.proofs.Common.{◌≡◌, ◌<◌, arith, min}
use Rattle.std.proofs.Math.Numerals.{add-one}
use Rattle.grid.proofs.Deltas.{deltas_fit, entries_fit, more_added, one_added}
use Rattle.grid.proofs.Entries.{taken, grid_slots}
use Rattle.grid.proofs.lines.add_rects.Goals as goal

pub add_rect-requires-clause-deltas_fit : goal.add_rect-requires-clause-deltas_fit
add_rect-requires-clause-deltas_fit c =
    deltas_fit c.loop-d.invariant (let h = c.loop-d-test.true in let f = c.rects-d-items.ensures.fits in omega arith)

pub loop-d-preserved : goal.loop-d-preserved
loop-d-preserved c =
    let t = c.args.t.now in
    let n : c.loop-d.d-index < t.count = (let h = c.loop-d-test.true in let f = c.rects-d-items.ensures.fits in omega arith) in
    let e = taken t c.loop-d.d-index c.rects-d-items.ensures.items n in
    rw (add-one c.loop-d.d-index) (one_added c.loop-d.invariant (rw e at c.add_rect.ensures))

pub returns : goal.returns
returns c =
    let t = c.args.t.now in
    let f = c.rects-d-items.ensures.fits in
    let m = c.loop-d.auto.d-index-end in
    let h = c.loop-d-test.false in
    let i = c.loop-d.invariant in
    let n : min t.count 16 ≡ c.loop-d.d-index = omega arith in
    record {
      line_deltas = more_added i (omega arith) (λ b. rw (← n) (grid_slots t c.rects-d-items.ensures.items f c.args.a b));
      entries_fit = entries_fit i (omega arith);
    }
