-- `sametable::put_refused`: one put after the other, for which there is room.
-- Assumes nothing.
use Rattle.std.proofs.Common.{arith, ◌∙◌}
use Rattle.text.proofs.Cells.{cell-length}
use Rattle.text.proofs.Puts.{kept, put_then, put_said}
use Rattle.refusals.proofs.Widths.{words_short}
use Rattle.sametable.specs.Comparison.{refused_text}
use Rattle.sametable.proofs.answers.put_refused.Goals as goal

pub returns : goal.returns
unfolding refused_text
returns c = let n = c.args.number in
    let h = c.requires in
    let l = cell-length n 58 in
    let w = words_short n in
    let words = c.as_bytes.ensures.value ∙ c.sentence.ensures in
    let a = c.put_bytes-a.ensures in
    let b = c.put_cell-a.ensures in
    let d = c.put_bytes-a-2.ensures in
    let e = rw words at c.put_bytes-a-3.ensures.value in
    let o = rw words at c.put_bytes-a-3.ensures.out_after in
    let f = c.put_bytes.ensures in
    let p = put_said a.value a.out_after (omega arith) in
    let pn = p.next_is in
    let pk = kept p in
    let q = put_said b.value b.out_after (omega arith) in
    let qn = q.next_is in
    let qk = kept q in
    let r = put_said d.value d.out_after (omega arith) in
    let rn = r.next_is in
    let rk = kept r in
    let t = put_said e o (omega arith) in
    let tn = t.next_is in
    let tk = kept t in
    let u = put_said f.value f.out_after (omega arith) in
    put_then (put_then (put_then (put_then p q) r) t) u
