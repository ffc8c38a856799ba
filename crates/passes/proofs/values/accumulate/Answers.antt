-- Assumes nothing.
use Rattle.std.proofs.Common.{arith}
use Rattle.passes.proofs.Columns.{filled}
use Rattle.passes.proofs.values.accumulate.Goals as goal

pub returns : goal.returns
returns c = filled _ _ _ 0 (omega arith) (λ k below. c.loop-c.invariant.done k (omega arith))
