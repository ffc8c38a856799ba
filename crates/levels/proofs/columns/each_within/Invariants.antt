-- `levels::each_within`: every level passed is within the bound, so that the first that is not decides, and with none all are.
-- Assumes nothing.
use Prim.Native.Nat.{ℕ, ◌<◌}
use lib.Dec.{T, leb}
use Rattle.levels.specs.Levels.{count_of, moved_count}
use Rattle.levels.proofs.columns.each_within.Given as goal

abbrev pub invariant-loop-v : goal.invariant-loop-v
invariant-loop-v l = (u : ℕ) → u < l.v → T (leb (moved_count (count_of l.col) l.x l.less l.y l.more u) l.most)
