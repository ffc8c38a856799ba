-- By the sign.
-- Assumes nothing.
use mir.Facts.{to_z-of_z}
use Rattle.text.proofs.Cells.{signed_pos, signed_neg}
use Rattle.text.proofs.putting.put_signed.Goals as goal

pub returns-then-x-ge2147483648-clause-value : goal.returns-then-x-ge2147483648-clause-value
returns-then-x-ge2147483648-clause-value c =
    let d = rw (to_z-of_z c.ranges.z) at c.biased_long-x.ensures.diff in
    rw (signed_pos _ _ _ d c.if-x-ge2147483648.true) (c.put_cell.ensures.value)

pub returns-then-x-ge2147483648-clause-out_after : goal.returns-then-x-ge2147483648-clause-out_after
returns-then-x-ge2147483648-clause-out_after c =
    let d = rw (to_z-of_z c.ranges.z) at c.biased_long-x.ensures.diff in
    rw (signed_pos _ _ _ d c.if-x-ge2147483648.true) (c.put_cell.ensures.out_after)

pub returns-else-x-ge2147483648-clause-value : goal.returns-else-x-ge2147483648-clause-value
returns-else-x-ge2147483648-clause-value c =
    let d = rw (to_z-of_z c.ranges.z) at c.biased_long-x.ensures.diff in
    rw (signed_neg _ _ _ d c.if-x-ge2147483648.false) (c.put_negative.ensures.value)

pub returns-else-x-ge2147483648-clause-out_after : goal.returns-else-x-ge2147483648-clause-out_after
returns-else-x-ge2147483648-clause-out_after c =
    let d = rw (to_z-of_z c.ranges.z) at c.biased_long-x.ensures.diff in
    rw (signed_neg _ _ _ d c.if-x-ge2147483648.false) (c.put_negative.ensures.out_after)
