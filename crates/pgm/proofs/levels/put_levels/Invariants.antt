-- The bytes below the place are put.
use Rattle.std.proofs.Common.{◌≡◌, ℕ, ◌<◌, get_or, pos}
use Rattle.pgm.specs.Shade.{level_byte}
use Rattle.pgm.proofs.levels.put_levels.Given as goal

abbrev pub invariant-loop-k : goal.invariant-loop-k
invariant-loop-k l = (k : ℕ) → k < l.k → get_or l.out k 0 ≡ level_byte (get_or l.levels k (pos 0))
