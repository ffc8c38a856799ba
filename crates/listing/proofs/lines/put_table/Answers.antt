-- Head, rectangles and end, one after the other.
-- Assumes nothing.
use Rattle.text.proofs.Puts.{put_then}
use Rattle.listing.specs.Listing.{table_lines}
use Rattle.listing.proofs.lines.put_table.Goals as goal

pub returns : goal.returns
unfolding table_lines
returns c = put_then (put_then c.put_head-a.ensures.put c.put_rects-a.ensures.put) c.put_end.ensures
