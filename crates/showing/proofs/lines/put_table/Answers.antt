-- The header's lines, then those of the rectangles.
-- Assumes nothing.
use Rattle.text.proofs.Puts.{put_then}
use Rattle.showing.specs.Showing.{text_of}
use Rattle.showing.proofs.lines.put_table.Goals as goal

pub returns-clause-put : goal.returns-clause-put
unfolding text_of
returns-clause-put c = put_then c.put_head-a.ensures.put c.put_rects.ensures.put
