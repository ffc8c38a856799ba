-- The counts of a window over the columns of a row.
-- Assumes nothing.
use Rattle.std.specs.Prelude.{ℕ, cond, List, ltb, ℤ, pos, negsuc}
use Rattle.arith.specs.Sum.{sum}
use Rattle.layout.specs.declared.Rect.{Rect}
use Rattle.layout.specs.Measure.{cols_of}
use Rattle.rule.specs.Sums.{covered}
use Rattle.levels.specs.Levels.{count_at}

-- the count of level u in column j of a row of l columns, none outside the row
unfoldable pub column_count : (counts : List ℕ) → (l u : ℕ) → (j : ℤ) → ℕ
column_count counts l u (pos j) = cond (ltb j l) (count_at counts j u) 0
column_count counts l u (negsuc j) = 0

-- the count of level u in the window at column c: the sum over its columns inside the row
unfoldable pub window_count : (counts : List ℕ) → (l : ℕ) → Rect → (c : ℤ) → (u : ℕ) → ℕ
window_count counts l d c u = sum (cols_of d) (λ j. column_count counts l u (covered c d.trailcol j))
