-- Three numbers one after the other.
-- Assumes nothing.
use Rattle.listing.specs.Listing.{three}
use Rattle.text.proofs.Puts.{put_then}
use Rattle.listing.proofs.cells.put_three.Goals as goal

pub returns-clause-put : goal.returns-clause-put
unfolding three
returns-clause-put c =
    let x = c.put_cell-a.ensures in
    let y = c.put_cell-a-2.ensures in
    let z = c.put_cell.ensures in
    put_then (put_then x.put y.put) z.put
