-- No sentence is long.
use Rattle.std.proofs.Common.{◌∙◌, arith}
use Rattle.text.proofs.Puts.{put_said}
use Rattle.refusals.proofs.Widths.{words_short}
use Rattle.filtering.proofs.saying.put_sentence.Goals as goal

pub returns : goal.returns
returns c =
    let w = words_short c.args.number in
    let e = c.as_bytes.ensures.value ∙ c.sentence.ensures in
    let p = put_said (rw e at c.put_bytes.ensures.value) (rw e at c.put_bytes.ensures.out_after) (omega arith) in
    let n = p.next_is in
    record { put = p; upper_bound = omega arith }
