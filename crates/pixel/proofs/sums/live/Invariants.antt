-- Every sample passed is dead, so that the mended sample is that of the place reached.
use Rattle.std.proofs.Common.{ℕ, ◌+◌, ◌-◌, ◌≤◌, ◌≡◌, List, get_or}
use Rattle.rule.specs.Mended.{mended_at}
use Rattle.pixel.proofs.sums.live.Given as goal

-- the samples of the row
abbrev pub row : (samples : List ℕ) → (base : ℕ) → ℕ → ℕ
row samples base i = get_or samples (base + i) 0

abbrev pub invariant-loop-k : goal.invariant-loop-k
invariant-loop-k l = (l.base ≤ l.k) × (l.k ≤ l.at) × (mended_at (row l.samples l.base) (l.at - l.base) ≡ mended_at (row l.samples l.base) (l.k - l.base))

abbrev pub decreases-loop-k : goal.decreases-loop-k
decreases-loop-k l = l.k
