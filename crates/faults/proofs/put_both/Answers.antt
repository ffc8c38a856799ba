-- Where there is room for both, one is put after the other.
-- Assumes nothing.
use Rattle.std.proofs.Common.{◌++◌, arith, sym, length-append}
use Rattle.std.proofs.lemmas.List.{length-take-le}
use Rattle.text.proofs.Puts.{kept, put_then, put_said, put_is, no_room}
use Rattle.faults.proofs.put_both.Goals as goal

pub returns-then-out-one : goal.returns-then-out-one
returns-then-out-one c =
    let a = c.args in
    let l = length-append a.one.now a.other.now in
    let n = no_room a.out.now 0 (a.one.now ++ a.other.now) (omega arith) in
    record { value = n.0; out_after = n.1; upper_bound = (omega arith, sym (length-take-le 0 a.out.now (omega arith))) }

pub returns-then-out-one-2 : goal.returns-then-out-one-2
returns-then-out-one-2 c =
    let a = c.args in
    let l = length-append a.one.now a.other.now in
    let n = no_room a.out.now 0 (a.one.now ++ a.other.now) (omega arith) in
    record { value = n.0; out_after = n.1; upper_bound = (omega arith, sym (length-take-le 0 a.out.now (omega arith))) }

pub returns : goal.returns
returns c =
    let x = c.put_bytes-a.ensures in
    let y = c.put_bytes.ensures in
    let p = put_said x.value x.out_after (omega arith) in
    let pn = p.next_is in
    let pk = kept p in
    let q = put_said y.value y.out_after (omega arith) in
    let t = put_then p q in
    let e = put_is t in
    let k = kept t in
    let r = t.room in
    record { value = e.0; out_after = e.1; upper_bound = (omega arith, sym (length-take-le _ _ (omega arith))) }
