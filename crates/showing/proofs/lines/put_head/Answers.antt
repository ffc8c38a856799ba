-- Four lines, one after the other.
-- Assumes nothing.
use Rattle.text.specs.Ascii.{ascii}
use Rattle.text.proofs.Puts.{put_then}
use Rattle.showing.specs.Showing.{number_line, head_lines}
use Rattle.showing.proofs.lines.put_head.Goals as goal

pub returns-clause-put : goal.returns-clause-put
unfolding ascii number_line head_lines
returns-clause-put c =
    let x = c.put_number-a.ensures.put in
    let y = c.put_drops-a.ensures.put in
    let z = c.put_number-a-2.ensures.put in
    put_then (put_then (put_then x y) z) c.put_number.ensures.put
