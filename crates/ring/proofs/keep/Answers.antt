-- `ring::keep` pastes the arriving row over its place.
-- Assumes nothing.
use Rattle.std.proofs.Common.{refl}
use Rattle.arith.proofs.Parts.{part_back}
use Rattle.ring.proofs.keep.Goals as goal

pub returns : goal.returns
returns c = rw c.copy.ensures (part_back _ _ c.args.samples.now c.args.row.now refl)
