-- The word, then the integer, for which there is room.
-- Assumes nothing.
use Rattle.std.proofs.Common.{arith, w32}
use Rattle.std.proofs.Math.Facts.{to_z-of_z, sfits_widen}
use Rattle.text.proofs.Puts.{kept, put_then, put_said}
use Rattle.text.proofs.Cells.{signed_length}
use Rattle.showing.proofs.cells.put_signed.Goals as goal

pub returns : goal.returns
returns c =
    let h = c.requires in
    let l = signed_length c.args.z c.args.end in
    let x = c.put_bytes-a.ensures in
    let y = rw (c.from.ensures, to_z-of_z c.ranges.z, to_z-of_z (sfits_widen {w' = w32} tt c.ranges.z)) at c.put_signed.ensures in
    let p = put_said x.value x.out_after (omega arith) in
    let pn = p.next_is in
    let pk = kept p in
    let q = put_said y.value y.out_after (omega arith) in
    let qn = q.next_is in
    record { put = put_then p q; upper_bound = omega arith }
