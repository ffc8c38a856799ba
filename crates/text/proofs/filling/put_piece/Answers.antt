-- A number has at most 20 digits and a byte is one, so there is room for either.
-- Assumes nothing.
use native.Mathlib.Omega.{arith}
use borrow.Author.Tests.{eq-eqb, ne_eqb}
use Rattle.text.proofs.Puts.{put_said}
use Rattle.text.proofs.Cells.{number_length}
use Rattle.text.proofs.Pieces.{piece_number, piece_byte}
use Rattle.text.proofs.filling.put_piece.Goals as goal

pub returns-then-b-eq35-clause-put : goal.returns-then-b-eq35-clause-put
returns-then-b-eq35-clause-put c =
    let e = c.put_number.ensures in
    let l = number_length c.args.n in
    let p = put_said e.value e.out_after (omega arith) in
    let n = p.next_is in
    rw (piece_number c.args.b c.args.n (eq-eqb _ _ c.if-b-eq35.true)) p

pub returns-then-b-eq35-clause-upper_bound : goal.returns-then-b-eq35-clause-upper_bound
returns-then-b-eq35-clause-upper_bound c =
    let e = c.put_number.ensures in
    let l = number_length c.args.n in
    let p = put_said e.value e.out_after (omega arith) in
    let n = p.next_is in
    omega arith

pub returns-clause-put : goal.returns-clause-put
returns-clause-put c =
    let e = c.put_bytes.ensures in
    let p = put_said e.value e.out_after (omega arith) in
    let n = p.next_is in
    rw (piece_byte c.args.b c.args.n (ne_eqb _ _ c.if-b-eq35.false)) p

pub returns-clause-upper_bound : goal.returns-clause-upper_bound
returns-clause-upper_bound c =
    let e = c.put_bytes.ensures in
    let p = put_said e.value e.out_after (omega arith) in
    let n = p.next_is in
    omega arith
