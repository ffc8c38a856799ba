-- Three numbers, one after the other.
-- Assumes nothing.
use Rattle.text.specs.Ascii.{ascii}
use Rattle.text.proofs.Puts.{put_then}
use Rattle.showing.specs.Showing.{drops_line}
use Rattle.showing.proofs.lines.put_drops.Goals as goal

pub returns-clause-put : goal.returns-clause-put
unfolding ascii drops_line
returns-clause-put c =
    put_then (put_then c.put_number-a.ensures.put c.put_number-a-2.ensures.put) c.put_number.ensures.put
