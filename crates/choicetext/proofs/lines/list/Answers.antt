-- `choicetext::lines::list`: the marks of the choices, the head line and the lines.
-- Assumes nothing.
use Rattle.std.proofs.Common.{arith}
use Rattle.text.specs.Ascii.{ascii}
use Rattle.text.proofs.Puts.{kept, put_then}
use Rattle.choicetext.specs.Lines.{choices_text}
use Rattle.choicetext.proofs.Shown.{marks_few, marks_long, marks_at}
use Rattle.choicetext.proofs.lines.list.Goals as goal

pub put_choices-requires-clause-n_bound : goal.put_choices-requires-clause-n_bound
put_choices-requires-clause-n_bound c =
    let a = c.args in
    let e = c.mark-n.ensures.value in
    let f = c.mark-n.ensures.marks_after in
    let n = marks_few a.t a.width e f in
    let l = marks_long a.t a.width e f in
    let p = c.put_bytes-a.ensures in
    let b = p.next_is in
    let k = kept p in
    let h = c.requires in
    (n, omega arith, omega arith)

pub put_choices-requires-clause-by_index : goal.put_choices-requires-clause-by_index
put_choices-requires-clause-by_index c =
    let a = c.args in
    marks_at a.t a.width c.mark-n.ensures.value c.mark-n.ensures.marks_after

pub returns : goal.returns
unfolding choices_text ascii
returns c = let m = c.mark-n.ensures.value in
    let p = c.put_bytes-a.ensures in
    put_then p (rw (← m) c.put_choices.ensures)
