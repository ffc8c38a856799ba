-- Assumes nothing.
use Rattle.std.proofs.Common.{pos, arith}
use Rattle.passes.proofs.Columns.{filled}
use Rattle.passes.proofs.pixels.write_narrow.Goals as goal

pub returns : goal.returns
returns c = filled _ _ _ (pos 0) (omega arith) (λ k below. c.loop-c.invariant.done k (omega arith))
