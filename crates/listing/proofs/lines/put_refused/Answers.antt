-- The word and the number.
-- Assumes nothing.
use Rattle.listing.specs.Listing.{refused_line}
use Rattle.text.proofs.Puts.{put_then}
use Rattle.listing.proofs.lines.put_refused.Goals as goal

pub returns : goal.returns
unfolding refused_line
returns c = let x = c.put_bytes-a.ensures in
    let y = c.put_cell.ensures in
    put_then x y.put
