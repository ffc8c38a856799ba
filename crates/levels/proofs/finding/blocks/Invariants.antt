-- `levels::blocks` adds block after block while the sum stays below the rank.
-- Assumes nothing.
use Rattle.std.proofs.Common.{◌-◌, ◌≡◌, length}
use Rattle.levels.specs.Fits.{BlocksPassed}
use Rattle.levels.proofs.finding.blocks.Given as goal

abbrev pub invariant-loop-at : goal.invariant-loop-at
invariant-loop-at l = (l.n ≡ length l.counts) × BlocksPassed l.counts l.rank l.at l.sum

abbrev pub decreases-loop-at : goal.decreases-loop-at
decreases-loop-at l = l.n - l.at
