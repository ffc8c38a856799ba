-- What follows the name is put in a buffer of its own, then both.
-- Assumes nothing.
use Rattle.std.proofs.Common.{sym, ap, ◌∙◌, take}
use Rattle.std.proofs.Math.Seq.{take_at}
use Rattle.text.proofs.Puts.{put_start}
use Rattle.faults.specs.Faults.{rest_text, fault_text}
use Rattle.faults.proofs.put_fault.Goals as goal

pub returns : goal.returns
unfolding fault_text
returns c =
    let s = c.args in
    let p = put_start c.put_rest-n.ensures in
    let e = ap (take c.put_rest-n.result) p.1 ∙ take_at (rest_text s.place s.number) _ c.put_rest-n.result (sym p.0) in
    rw e at c.put_both.ensures
