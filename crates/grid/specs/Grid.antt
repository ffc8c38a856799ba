-- What the extremes of a value are made of: the areas of the rectangles, and M-104's weight grid, which holds for each of the 31 by 31
-- offsets from a pixel the total weight of the rectangles that cover it.
-- Assumes nothing.
use Rattle.std.specs.Prelude.{ℕ, ◌*◌, Bool, cond, ◌&&◌, List, ltb, ℤ, pos, ◌*ℤ◌}
use Rattle.std.proofs.Math.IntN.{sub_ℕ}
use Rattle.std.specs.Int.Signed.{le_z, lt_z}
use Rattle.arith.specs.Sum.{sum, sum_ℤ}
use Rattle.arith.specs.Tab.{grid}
use Rattle.layout.specs.declared.Rect.{Rect}
use Rattle.layout.specs.Measure.{rows_of, cols_of}

-- the sum of part(weight)·M·N over n rectangles
unfoldable pub area_sum : (part : ℤ → ℕ) → (n : ℕ) → (ℕ → Rect) → ℕ
area_sum part n f = sum n (λ k. part (f k).weight * (rows_of (f k) * cols_of (f k)))

-- 2^35, which no sum over areas or over a grid passes; (2^b - 1) times it has 47 bits
abbrev pub sum_most : ℕ
sum_most = 34359738368

-- ---- the grid

-- offset a of 31, from -15 to 15
abbrev pub offset : (a : ℕ) → ℤ
offset a = sub_ℕ a 15

-- an offset is covered: it lies above the trail and not above the lead
unfoldable pub covers : (lead trail offset : ℤ) → Bool
covers lead trail o = lt_z trail o && le_z o lead

-- how often a rectangle takes the sample at row offset a and column offset b: once where it covers both
unfoldable pub factor : Rect → (a b : ℕ) → ℕ
factor d a b = cond (covers d.leadrow d.trailrow (offset a) && covers d.leadcol d.trailcol (offset b)) 1 0

-- the entry of n rectangles' grid at row offset a and column offset b
unfoldable pub grid_at : (n : ℕ) → (ℕ → Rect) → (a b : ℕ) → ℤ
grid_at n f a b = sum_ℤ n (λ k. (f k).weight *ℤ pos (factor (f k) a b))

-- the positive parts of all entries added up, or the negative ones
unfoldable pub grid_sum : (part : ℤ → ℕ) → (n : ℕ) → (ℕ → Rect) → ℕ
grid_sum part n f = sum 31 (λ a. sum 31 (λ b. part (grid_at n f a b)))

-- the scan of 31 by 31 samples that is `top` where an entry has such a part, and dark elsewhere
unfoldable pub peak : (part : ℤ → ℕ) → (top n : ℕ) → (ℕ → Rect) → List ℕ
peak part top n f = grid 31 31 (λ a b. cond (ltb 0 (part (grid_at n f a b))) top 0)
