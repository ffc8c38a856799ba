-- There is room, so the bytes are put.
-- Assumes nothing.
use Rattle.text.proofs.Puts.{put_said}
use Rattle.listing.proofs.cells.put_bytes.Goals as goal

pub returns : goal.returns
returns c = let e = c.put_bytes.ensures in
    put_said e.value e.out_after c.requires
