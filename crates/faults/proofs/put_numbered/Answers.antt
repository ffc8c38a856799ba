-- One put after the other, for which there is room.
-- Assumes nothing.
use Rattle.std.proofs.Common.{arith}
use Rattle.text.proofs.Puts.{kept, put_then, put_said}
use Rattle.text.proofs.Cells.{cell-length}
use Rattle.faults.specs.Faults.{numbered}
use Rattle.faults.proofs.put_numbered.Goals as goal

pub returns : goal.returns
unfolding numbered
returns c =
    let h = c.requires in
    let l = cell-length c.args.n 58 in
    let x = c.put_bytes-a.ensures in
    let y = rw c.from.ensures at c.put_cell-a.ensures in
    let z = c.put_bytes.ensures in
    let p = put_said x.value x.out_after (omega arith) in
    let pn = p.next_is in
    let pk = kept p in
    let q = put_said y.value y.out_after (omega arith) in
    let qn = q.next_is in
    let qk = kept q in
    let r = put_said z.value z.out_after (omega arith) in
    let rn = r.next_is in
    record { put = put_then (put_then p q) r; upper_bound = omega arith }
