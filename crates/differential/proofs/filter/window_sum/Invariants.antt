-- Adds up the columns of a rectangle: the sum is at most 31 · 65,535 for each offset passed.
-- Assumes nothing.
use Rattle.std.proofs.Common.{pos, neg_ℤ, ◌≤ℤ◌, ◌+ℤ◌, ◌*ℤ◌}
use Rattle.differential.proofs.filter.window_sum.Given as goal

abbrev pub invariant-loop-o : goal.invariant-loop-o
invariant-loop-o l = (neg_ℤ (pos 15) ≤ℤ l.o) × (l.o ≤ℤ pos 16) × (pos l.sum ≤ℤ ((l.o +ℤ pos 15) *ℤ pos 2031585))
