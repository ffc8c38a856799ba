-- The word, then the number, for which there is room.
-- Assumes nothing.
use Rattle.std.proofs.Common.{arith}
use Rattle.text.proofs.Puts.{kept, put_then, put_said}
use Rattle.text.proofs.Cells.{cell-length}
use Rattle.showing.proofs.cells.put_number.Goals as goal

pub returns : goal.returns
returns c =
    let h = c.requires in
    let l = cell-length c.args.n c.args.end in
    let x = c.put_bytes-a.ensures in
    let y = rw c.from.ensures at c.put_cell.ensures in
    let p = put_said x.value x.out_after (omega arith) in
    let pn = p.next_is in
    let pk = kept p in
    let q = put_said y.value y.out_after (omega arith) in
    let qn = q.next_is in
    record { put = put_then p q; upper_bound = omega arith }
