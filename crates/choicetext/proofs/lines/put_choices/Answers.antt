-- `choicetext::lines::put_choices`: choice after choice is put.
-- Assumes nothing.
use Rattle.std.proofs.Common.{arith, add-one}
use Rattle.text.proofs.Puts.{put_none, put_then}
use Rattle.choicetext.specs.Lines.{choice_lines}
use Rattle.choicetext.proofs.lines.put_choices.Goals as goal

pub loop-i-init : goal.loop-i-init
unfolding choice_lines
loop-i-init c =
    let p = c.requires.n_bound.2 in
    record { put = put_none _ _ (omega arith); upper_bound = omega arith }

pub loop-i-preserved : goal.loop-i-preserved
unfolding choice_lines
loop-i-preserved c =
    let i = c.loop-i.invariant in
    let p = c.put_choice-a.ensures in
    record { put = rw add-one (put_then i.put p.put); upper_bound = omega arith }
