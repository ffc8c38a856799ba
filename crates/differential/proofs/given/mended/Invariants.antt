-- Mends samples: each that is passed is live, and so is the one to the left.
-- Assumes nothing.
use Rattle.std.proofs.Common.{ℕ, ◌<◌, get_or}
use Rattle.differential.proofs.given.mended.Given as goal

abbrev pub invariant-loop-k : goal.invariant-loop-k
invariant-loop-k l = (l.left < 65535) × ((k : ℕ) → k < l.k → get_or l.sample-items k 0 < 65535)
