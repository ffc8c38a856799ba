-- The row with the word in front, then the column.
-- Assumes nothing.
use Rattle.std.proofs.Common.{w16}
use Rattle.std.proofs.Math.Facts.{to_z-of_z, sfits_widen}
use Rattle.text.proofs.Puts.{put_then}
use Rattle.showing.specs.Showing.{pair}
use Rattle.showing.proofs.cells.put_pair.Goals as goal

pub returns-clause-put : goal.returns-clause-put
unfolding pair
returns-clause-put c =
    let f = c.ranges.row in
    let g = c.ranges.col in
    let x = rw (c.from.ensures, to_z-of_z f, to_z-of_z (sfits_widen {w' = w16} tt f)) at c.put_signed-a.ensures in
    let y = rw (c.from-2.ensures, to_z-of_z g, to_z-of_z (sfits_widen {w' = w16} tt g)) at c.put_signed.ensures in
    put_then x.put y.put
