-- `same::alike`: two entries are equal where their parts, added crosswise, are.
-- Assumes nothing.
use Rattle.std.proofs.Common.{sym}
use Rattle.arith.proofs.Ints.{diff_eq_z}
use Rattle.same.specs.Same.{alike_at}
use Rattle.same.proofs.grids.alike.Goals as goal

pub returns : goal.returns
unfolding alike_at
returns c = sym (diff_eq_z c.entry-x.ensures.diff c.entry-y.ensures.diff)
