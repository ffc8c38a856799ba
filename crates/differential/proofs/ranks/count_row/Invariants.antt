-- Counts the covered samples of a row: an offset counts one at most.
-- Assumes nothing.
use Rattle.std.proofs.Common.{◌≡◌, ◌+◌, pos, neg_ℤ, ◌≤ℤ◌, ◌+ℤ◌, length, slice_index, EachIndex}
use Rattle.differential.proofs.ranks.count_row.Given as goal

abbrev pub invariant-loop-o : goal.invariant-loop-o
invariant-loop-o l =
    (neg_ℤ (pos 15) ≤ℤ l.o) × (l.o ≤ℤ pos 16) × (length l.counts ≡ 256)
    × EachIndex l.counts (λ k. pos (slice_index l.counts k) ≤ℤ (pos (slice_index l.initial.counts k + 15) +ℤ l.o))
