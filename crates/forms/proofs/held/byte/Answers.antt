-- The number, or 255.
-- Assumes nothing.
use Rattle.std.proofs.Common.{arith, add-one}
use Rattle.forms.specs.Forms.{size_at}
use Rattle.forms.proofs.held.byte.Goals as goal

pub returns : goal.returns
unfolding size_at
returns c = let e = rw add-one at c.number.ensures.size_value in omega arith
