-- An integer and the byte after it have at most 22 bytes.
-- Assumes nothing.
use Rattle.std.proofs.Common.{arith, ◌∙◌, w32, to_z-of_z}
use Rattle.text.proofs.Puts.{put_said}
use Rattle.text.proofs.Cells.{signed_length}
use Rattle.listing.proofs.cells.put_signed.Goals as goal

pub returns-clause-put : goal.returns-clause-put
returns-clause-put c =
    let h = c.requires in
    let z = c.args.z in
    let l = signed_length z c.args.end in
    let b = to_z-of_z {w = w32} (record { sfits = c.from.type_inv }) ∙ c.from.ensures ∙ to_z-of_z c.ranges.z in
    let e = rw b at c.put_signed.ensures.value in
    let f = rw b at c.put_signed.ensures.out_after in
    let p = put_said e f (omega arith) in
    let n = p.next_is in
    p

pub returns-clause-upper_bound : goal.returns-clause-upper_bound
returns-clause-upper_bound c =
    let h = c.requires in
    let z = c.args.z in
    let l = signed_length z c.args.end in
    let b = to_z-of_z {w = w32} (record { sfits = c.from.type_inv }) ∙ c.from.ensures ∙ to_z-of_z c.ranges.z in
    let e = rw b at c.put_signed.ensures.value in
    let f = rw b at c.put_signed.ensures.out_after in
    let p = put_said e f (omega arith) in
    let n = p.next_is in
    omega arith
