-- `choicetext::lines::put_line`: the eight numbers, three, three, one and one.
-- Assumes nothing.
use Rattle.text.proofs.Puts.{put_then}
use Rattle.choicetext.specs.Lines.{choice_line}
use Rattle.choicetext.proofs.lines.put_line.Goals as goal

pub returns-clause-put : goal.returns-clause-put
unfolding choice_line
returns-clause-put c =
    let p = c.put_three-a.ensures in
    let q = c.put_three-a-2.ensures in
    let r = c.put_less-a.ensures in
    let t = c.put_cell.ensures in
    put_then (put_then (put_then p.put q.put) r.put) t.put
