-- A number and the byte after it have at most 21 bytes.
-- Assumes nothing.
use native.Mathlib.Omega.{arith}
use Rattle.text.proofs.Puts.{put_said}
use Rattle.text.proofs.Cells.{cell-length}
use Rattle.listing.proofs.cells.put_cell.Goals as goal

pub returns-clause-put : goal.returns-clause-put
returns-clause-put c =
    let h = c.requires in
    let l = cell-length c.args.n c.args.end in
    let e = c.put_cell.ensures in
    let p = put_said e.value e.out_after (omega arith) in
    let n = p.next_is in
    p

pub returns-clause-upper_bound : goal.returns-clause-upper_bound
returns-clause-upper_bound c =
    let h = c.requires in
    let l = cell-length c.args.n c.args.end in
    let e = c.put_cell.ensures in
    let p = put_said e.value e.out_after (omega arith) in
    let n = p.next_is in
    omega arith
