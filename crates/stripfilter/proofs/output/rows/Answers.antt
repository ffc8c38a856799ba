-- The rows are within the pixels.
-- Assumes nothing.
use native.Mathlib.Omega.{arith}
use mathlib.Core.Path.{sym}
use lib.Seq.{length-take-le}
use lib.ListN.{length}
use Rattle.stripfilter.proofs.Bounds.{packed_within}
use Rattle.stripfilter.proofs.output.rows.Goals as goal

pub slice_bounds-lines-end : goal.slice_bounds-lines-end
slice_bounds-lines-end g c = let a = c.args in
    let e = c.packed-n.ensures in
    let w = packed_within a.count a.plan.job.width (length a.pixels.now) in
    sym (length-take-le _ _ (omega arith))

pub slice_bounds-samples-end : goal.slice_bounds-samples-end
slice_bounds-samples-end g c = let a = c.args in
    let e = c.packed-n.ensures in
    let w = packed_within a.count a.plan.job.width (length a.pixels.now) in
    sym (length-take-le _ _ (omega arith))

pub slice_bounds-bytes-end : goal.slice_bounds-bytes-end
slice_bounds-bytes-end g c = let a = c.args in
    let e = c.packed-n.ensures in
    let w = packed_within a.count a.plan.job.width (length a.pixels.now) in
    sym (length-take-le _ _ (omega arith))
