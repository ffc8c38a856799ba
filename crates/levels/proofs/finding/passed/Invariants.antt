-- `levels::passed` adds count after count and counts the levels whose sum is below the rank: sums only grow, so that these are the first ones.
-- Assumes nothing.
use Prim.Native.Nat.{◌+◌}
use mathlib.Core.Path.{◌≡◌}
use lib.Dec.{ltb}
use Rattle.arith.specs.Sum.{sum}
use Rattle.arith.specs.First.{first_not}
use Rattle.levels.specs.Levels.{count_of, up_to}
use Rattle.levels.proofs.finding.passed.Given as goal

abbrev pub invariant-loop-count : goal.invariant-loop-count
invariant-loop-count l = (l.sum ≡ l.before + sum l.count-index (count_of l.counts)) × (l.low ≡ first_not l.count-index (λ k. ltb (l.before + up_to (count_of l.counts) k) l.rank))
