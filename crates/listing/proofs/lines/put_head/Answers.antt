-- Six numbers, three and three.
-- Assumes nothing.
use Rattle.listing.specs.Listing.{head_line}
use Rattle.text.proofs.Puts.{put_then}
use Rattle.listing.proofs.lines.put_head.Goals as goal

pub returns-clause-put : goal.returns-clause-put
unfolding head_line
returns-clause-put c =
    let x = c.put_three-a.ensures in
    let y = c.put_three.ensures in
    put_then x.put y.put
