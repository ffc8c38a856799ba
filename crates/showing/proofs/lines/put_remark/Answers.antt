-- The words of the refusal between two texts, for which there is room.
-- Assumes nothing.
use Rattle.std.proofs.Common.{arith}
use Rattle.text.proofs.Puts.{kept, put_then, put_said}
use Rattle.text.specs.Ascii.{ascii}
use Rattle.refusals.proofs.Widths.{words_short}
use Rattle.showing.specs.Showing.{remark}
use Rattle.showing.proofs.lines.put_remark.Goals as goal

pub returns : goal.returns
unfolding ascii remark
returns c = let h = c.requires in
    let w = words_short 10 in
    let x = c.put_bytes-a.ensures in
    let y = c.put_refusal-a.ensures in
    let z = c.put_bytes.ensures in
    let p = put_said x.value x.out_after (omega arith) in
    let pn = p.next_is in
    let pk = kept p in
    let q = put_said y.value y.out_after (omega arith) in
    let qn = q.next_is in
    let qk = kept q in
    let r = put_said z.value z.out_after (omega arith) in
    put_then (put_then p q) r
