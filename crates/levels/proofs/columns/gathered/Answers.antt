-- `levels::gathered`: a OR b is below neither a nor b, so that each count passed is at most what is gathered.
-- Assumes nothing.
use Prim.Native.Nat.{◌≤◌}
use native.Mathlib.Nat.{le_trans}
use lib.Bits.{bit_or}
use lib.ListN.{get_or}
use Rattle.arith.proofs.Alls.{up_to}
use Rattle.levels.proofs.Ors.{or_ge_left, or_ge_right}
use Rattle.levels.proofs.columns.gathered.Goals as goal

pub loop-count-preserved : goal.loop-count-preserved
loop-count-preserved c = let col = c.args.col.now in
    let g = c.loop-count.all in
    let x = get_or col c.loop-count.count-index 0 in
    up_to {P = λ u. get_or col u 0 ≤ bit_or g x} c.loop-count.count-index (λ u l. le_trans (c.loop-count.invariant u l) (or_ge_left g x)) (or_ge_right g x)
