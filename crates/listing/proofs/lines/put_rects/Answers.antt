-- Rectangle after rectangle is put.
-- Assumes nothing.
use Rattle.std.proofs.Common.{arith, add-one}
use Rattle.text.proofs.Puts.{put_none, put_then}
use Rattle.listing.specs.Listing.{rect_lines}
use Rattle.listing.proofs.lines.put_rects.Goals as goal

pub loop-k-init : goal.loop-k-init
unfolding rect_lines
loop-k-init c =
    let p = c.requires.count_bound.1 in
    record { put = put_none _ _ (omega arith); upper_bound = omega arith }

pub loop-k-preserved : goal.loop-k-preserved
unfolding rect_lines
loop-k-preserved c =
    let i = c.loop-k.invariant in
    let p = c.put_rect-a.ensures in
    record { put = rw add-one (put_then i.put p.put); upper_bound = omega arith }
