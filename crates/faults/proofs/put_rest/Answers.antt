-- One put after the other, for which 256 bytes are room.
-- Assumes nothing.
use Rattle.std.proofs.Common.{arith}
use Rattle.text.specs.Ascii.{ascii}
use Rattle.text.proofs.Puts.{kept, put_then, put_said}
use Rattle.faults.specs.Faults.{rest_text}
use Rattle.faults.proofs.put_rest.Goals as goal

pub put_place-a-requires : goal.put_place-a-requires
put_place-a-requires c =
    let e = c.put_bytes-a.ensures in
    let p = put_said e.value e.out_after (omega arith) in
    let n = p.next_is in
    let k = kept p in
    omega arith

pub put_meaning-a-requires : goal.put_meaning-a-requires
put_meaning-a-requires c =
    let e = c.put_bytes-a.ensures in
    let p = put_said e.value e.out_after (omega arith) in
    let n = p.next_is in
    let k = kept p in
    let q = c.put_place-a.ensures in
    let m = kept q.put in
    omega arith

pub returns : goal.returns
unfolding ascii rest_text
returns c =
    let e = c.put_bytes-a.ensures in
    let p = put_said e.value e.out_after (omega arith) in
    let pn = p.next_is in
    let pk = kept p in
    let q = c.put_place-a.ensures in
    let qk = kept q.put in
    let r = c.put_meaning-a.ensures in
    let rk = kept r.put in
    let f = c.put_bytes.ensures in
    let u = put_said f.value f.out_after (omega arith) in
    put_then (put_then (put_then p q.put) r.put) u
