-- A carried sum moves in two steps, formulas (2) and (3): the leaving term is taken off, then the entering one put on.
-- Assumes nothing.
use Rattle.std.specs.Prelude.{ℕ, ◌+◌, ◌-◌, ◌/◌, ◌^◌, ◌<◌, ℤ}
use Rattle.layout.specs.declared.Rect.{Rect}
use Rattle.layout.specs.declared.Table.{Table}
use Rattle.layout.specs.Measure.{rows_of, cols_of, column_word, window_word}
use Rattle.rule.specs.Sums.{Image, covered, column_sum, window_sum}

-- the cut sample that leaves the column sum of column j when the row moves from r to r + 1: that of row r + trail + 1
unfoldable pub leaving_sample : Table → Image → Rect → (r j : ℤ) → ℕ
leaving_sample t x d r j = x (covered r d.trailrow 0) j / 2 ^ t.q1

-- the cut sample that enters it: that of row r + lead + 1
unfoldable pub entering_sample : Table → Image → Rect → (r j : ℤ) → ℕ
entering_sample t x d r j = x (covered r d.trailrow (rows_of d)) j / 2 ^ t.q1

-- the column sum after its first step
unfoldable pub column_less : Table → Image → Rect → (r j : ℤ) → ℕ
column_less t x d r j = column_sum t x d r j - leaving_sample t x d r j

-- the column sum after both steps
unfoldable pub column_next : Table → Image → Rect → (r j : ℤ) → ℕ
column_next t x d r j = column_less t x d r j + entering_sample t x d r j

-- the cut column sum that leaves the window sum of row r when the column moves from c to c + 1: that of column c + trail + 1
unfoldable pub leaving_column : Table → Image → Rect → (r c : ℤ) → ℕ
leaving_column t x d r c = column_sum t x d r (covered c d.trailcol 0) / 2 ^ t.q2

-- the cut column sum that enters it: that of column c + lead + 1
unfoldable pub entering_column : Table → Image → Rect → (r c : ℤ) → ℕ
entering_column t x d r c = column_sum t x d r (covered c d.trailcol (cols_of d)) / 2 ^ t.q2

-- the window sum after its first step
unfoldable pub window_less : Table → Image → Rect → (r c : ℤ) → ℕ
window_less t x d r c = window_sum t x d r c - leaving_column t x d r c

-- the window sum after both steps
unfoldable pub window_next : Table → Image → Rect → (r c : ℤ) → ℕ
window_next t x d r c = window_less t x d r c + entering_column t x d r c

-- a carried sum fits its word, formula (6) or (7), after either step
pub record StepWords (t : Table) (x : Image) (d : Rect) : Type 0 where
  pub column_less_fits : (r j : ℤ) → column_less t x d r j < 2 ^ column_word t d
  pub column_next_fits : (r j : ℤ) → column_next t x d r j < 2 ^ column_word t d
  pub window_less_fits : (r c : ℤ) → window_less t x d r c < 2 ^ window_word t d
  pub window_next_fits : (r c : ℤ) → window_next t x d r c < 2 ^ window_word t d
