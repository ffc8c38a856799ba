-- `levels::block` adds the counts passed; sixteen of at most 4,095 fit 16 bits.
-- Assumes nothing.
use mathlib.Core.Path.{◌≡◌}
use Rattle.arith.specs.Sum.{sum}
use Rattle.levels.specs.Levels.{count_of}
use Rattle.levels.proofs.finding.block.Given as goal

abbrev pub invariant-loop-count : goal.invariant-loop-count
invariant-loop-count l = (l.sum ≡ sum l.count-index (count_of l.counts))
