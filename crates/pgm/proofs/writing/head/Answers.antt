-- The four parts are put one after the other, and there is room for them.
use Rattle.std.proofs.Common.{◌≡◌, length, arith, rules}
use Rattle.text.proofs.Puts.{kept, put_then, put_said, put_start}
use Rattle.text.proofs.Cells.{cell-length}
use Rattle.pgm.specs.Text.{head_text}
use Rattle.pgm.proofs.writing.head.Goals as goal

pub returns : goal.returns
unfolding head_text
returns c =
    let a = c.args in
    let l : length a.out.now ≡ 66 = search rules in
    let h = c.put_bytes-a.ensures in
    let g = c.put_cell-a.ensures in
    let f = c.put_cell-a-2.ensures in
    let e = c.put_cell.ensures in
    let x = cell-length a.width 32 in
    let y = cell-length a.height 10 in
    let z = cell-length a.maxval 10 in
    let p = put_said h.value h.out_after (omega arith) in
    let pk = kept p in
    let pn = p.next_is in
    let q = put_said g.value g.out_after (omega arith) in
    let qk = kept q in
    let qn = q.next_is in
    let r = put_said f.value f.out_after (omega arith) in
    let rk = kept r in
    let rn = r.next_is in
    let t = put_then (put_then (put_then p q) r) (put_said e.value e.out_after (omega arith)) in
    let u = put_start t in
    let v = t.room in
    let w = kept t in
    record { value = u.0; out_after = u.1; upper_bound = omega arith }
