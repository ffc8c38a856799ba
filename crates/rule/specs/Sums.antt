-- The sums of one rectangle: full, and with the table's word cuts.
-- Assumes nothing.
use Rattle.std.specs.Prelude.{ℕ, suc, ◌+◌, ◌*◌, ◌/◌, ◌-◌, ◌^◌, ◌≤◌, cond, List, ltb, get_or, ℤ, pos, negsuc, ◌+ℤ◌}
use Rattle.arith.specs.Sum.{sum}
use Rattle.layout.specs.declared.Rect.{Rect}
use Rattle.layout.specs.declared.Table.{Table}
use Rattle.layout.specs.Measure.{rows_of, cols_of}
use Rattle.rule.specs.Mended.{mended_at}

-- an image: the sample of a scan at a row and a column, mended, 0 outside
abbrev pub Image : Type 0
Image = ℤ → ℤ → ℕ

-- every sample has b bits
abbrev pub HasBits : (b : ℕ) → Image → Type 0
HasBits b x = (i j : ℤ) → x i j ≤ 2 ^ b - 1

-- the scan whose rows of l samples stand in xs one after the other, each row mended by itself; after the last row xs has ended
unfoldable pub sample_at : (l : ℕ) → List ℕ → Image
sample_at l xs (pos i) (pos j) = cond (ltb j l) (mended_at (λ k. get_or xs (i * l + k) 0) j) 0
sample_at l xs (pos i) (negsuc j) = 0
sample_at l xs (negsuc i) j = 0

-- of the places p + trail + 1 to p + lead, number i, counted from 0: the trail edge is not covered, the lead edge is
unfoldable pub covered : (p trail : ℤ) → ℕ → ℤ
covered p trail i = (p +ℤ trail) +ℤ pos (suc i)

-- the full rectangle sum at row r, column c
unfoldable pub full_sum : Image → Rect → (r c : ℤ) → ℕ
full_sum x d r c = sum (cols_of d) (λ j. sum (rows_of d) (λ i. x (covered r d.trailrow i) (covered c d.trailcol j)))

-- a column sum before its cut: M samples of column j, each divided by 2^q1
unfoldable pub column_sum : Table → Image → Rect → (r j : ℤ) → ℕ
column_sum t x d r j = sum (rows_of d) (λ i. x (covered r d.trailrow i) j / 2 ^ t.q1)

-- a window sum before its cut: N column sums, each divided by 2^q2
unfoldable pub window_sum : Table → Image → Rect → (r c : ℤ) → ℕ
window_sum t x d r c = sum (cols_of d) (λ j. column_sum t x d r (covered c d.trailcol j) / 2 ^ t.q2)

-- the cut rectangle sum: the window sum divided by 2^q3
unfoldable pub cut_sum : Table → Image → Rect → (r c : ℤ) → ℕ
cut_sum t x d r c = window_sum t x d r c / 2 ^ t.q3

-- the cut rectangle sum scaled back
unfoldable pub scaled_sum : Table → Image → Rect → (r c : ℤ) → ℕ
scaled_sum t x d r c = cut_sum t x d r c * 2 ^ (t.q1 + t.q2 + t.q3)
