-- `sametable::put_word`: one put after the other, for which there is room.
-- Assumes nothing.
use native.Mathlib.Omega.{arith}
use mir.Facts.{to_z-of_z}
use Rattle.text.proofs.Cells.{signed_length}
use Rattle.text.proofs.Puts.{kept, put_then, put_said}
use Rattle.sametable.proofs.answers.put_word.Goals as goal

pub returns-clause-put : goal.returns-clause-put
returns-clause-put c =
    let z = c.args.z in
    let h = c.requires in
    let l = signed_length z c.args.end in
    let x = c.put_bytes-a.ensures in
    let y = rw (to_z-of_z c.ranges.z) at c.put_signed.ensures in
    let p = put_said x.value x.out_after (omega arith) in
    let pn = p.next_is in
    let pk = kept p in
    let q = put_said y.value y.out_after (omega arith) in
    let qn = q.next_is in
    put_then p q

pub returns-clause-upper_bound : goal.returns-clause-upper_bound
returns-clause-upper_bound c =
    let z = c.args.z in
    let h = c.requires in
    let l = signed_length z c.args.end in
    let x = c.put_bytes-a.ensures in
    let y = rw (to_z-of_z c.ranges.z) at c.put_signed.ensures in
    let p = put_said x.value x.out_after (omega arith) in
    let pn = p.next_is in
    let pk = kept p in
    let q = put_said y.value y.out_after (omega arith) in
    let qn = q.next_is in
    omega arith
