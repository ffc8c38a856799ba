-- The word, the number of rectangles and the delay.
-- Assumes nothing.
use Rattle.listing.specs.Listing.{end_line}
use Rattle.text.proofs.Puts.{put_then}
use Rattle.listing.proofs.lines.put_end.Goals as goal

pub returns : goal.returns
unfolding end_line
returns c = let x = c.put_bytes-a.ensures in
    let y = c.put_cell-a.ensures in
    let z = c.put_cell.ensures in
    rw (← c.delay.ensures) (put_then (put_then x y.put) z.put)
