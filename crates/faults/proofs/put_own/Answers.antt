-- The sentence is put, for which there is room.
-- Assumes nothing.
use Rattle.std.proofs.Common.{◌-◌, arith, ◌∙◌}
use Rattle.text.proofs.Puts.{put_said}
use Rattle.faults.proofs.Widths.{own_short}
use Rattle.faults.proofs.put_own.Goals as goal

pub returns : goal.returns
returns c =
    let h = c.requires in
    let l = own_short (c.args.number - 100) in
    let e = c.as_bytes.ensures.value ∙ c.own_sentence.ensures in
    let x = rw e at c.put_bytes.ensures in
    let p = put_said x.value x.out_after (omega arith) in
    let n = p.next_is in
    record { put = p; upper_bound = omega arith }
