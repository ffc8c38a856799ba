-- What the functions on the edges of a window compute, and what they ask. The contract of an arrival uses none of this.
-- Assumes nothing.
use Rattle.std.specs.Prelude.{ℕ, Option, Some, None, ◌≤◌, ◌≡◌, cond, List, eqb, ℤ, pos, length}
use Rattle.ring.specs.Ring.{RingFits}
use Rattle.histograms.specs.Arrivals.{is_given}
use Rattle.histograms.specs.Spans.{Zeros}

-- how often the row that is reached, if one is, counts, and which row it is
abbrev pub times_of : Option ℕ → ℕ
times_of None = 0
times_of (Some row) = 1

abbrev pub row_of : Option ℕ → ℕ
row_of None = 0
row_of (Some row) = row

-- row e of `given` rows counts `times` times, and if it counts it is this row
pub record EdgeOf (given : ℕ) (e : ℤ) (times row : ℕ) : Type 0 where
  pub often : times ≡ cond (is_given given e) 1 0
  pub is : 1 ≤ times → pos row ≡ e

-- a sample of a row that counts so often, 0 where it does not
abbrev pub counted_sample : (times : ℕ) → (row : ℕ → ℕ) → (c : ℕ) → ℕ
counted_sample times row c = cond (eqb times 0) 0 (row c)

pub record EdgeRowFits (width : ℕ) (row samples zeros : List ℕ) : Type 0 where
  pub width_most : width ≤ 1024
  pub ring : RingFits width (length row) (length samples)
  pub dark : Zeros 1024 zeros
