-- Every place is written.
use Rattle.std.proofs.Common.{arith}
use Rattle.pgm.proofs.Passes.{filled_by}
use Rattle.pgm.proofs.reading.decode_bytes.Goals as goal

pub returns : goal.returns
returns c = filled_by _ _ _ 0 (omega arith) (λ k below. c.loop-k.invariant k (omega arith))
