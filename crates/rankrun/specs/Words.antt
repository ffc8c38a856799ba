-- The words of the counts that the engine carries.
-- Assumes nothing.
use Rattle.std.specs.Prelude.{ℕ, ◌*◌, ◌^◌, ◌≤◌, ◌<◌, pos}
use Rattle.arith.specs.Sum.{sum}
use Rattle.layout.specs.Measure.{rows_of, cols_of}
use Rattle.levels.specs.Levels.{count_at}
use Rattle.histograms.specs.Windows.{window_count}
use Rattle.histograms.specs.Arrivals.{Counting, counts_after}

-- after an arrival that question 19 accepts, on any stores: a column count is at most M, at most 31; a window count at most M·N, at most 961; and
-- what the levels of a window add up to is at most 246,016
pub record CountWords (v : Counting) : Type 0 where
  pub column : (c u : ℕ) → c < v.what.width → u < 2 ^ v.what.b → count_at (counts_after v) c u ≤ rows_of v.what.rect
  pub column_word : rows_of v.what.rect ≤ 31
  pub window :
      (c u : ℕ) → u < 2 ^ v.what.b
      → window_count (counts_after v) v.what.width v.what.rect (pos c) u ≤ rows_of v.what.rect * cols_of v.what.rect
  pub window_word : rows_of v.what.rect * cols_of v.what.rect ≤ 961
  pub total : (c : ℕ) → sum (2 ^ v.what.b) (window_count (counts_after v) v.what.width v.what.rect (pos c)) ≤ 246016
