-- Adds up a pixel: each rectangle moves the value by 2^37 at most.
-- Assumes nothing.
use Rattle.std.proofs.Common.{pos, neg_ℤ, ◌≤ℤ◌, ◌*◌}
use Rattle.differential.proofs.filter.pixel.Given as goal

abbrev pub invariant-loop-d : goal.invariant-loop-d
invariant-loop-d l = (neg_ℤ (pos (137438953472 * l.d-index)) ≤ℤ l.value) × (l.value ≤ℤ pos (137438953472 * l.d-index))
