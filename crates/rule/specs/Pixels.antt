-- Values and pixels.
-- Assumes nothing.
use Rattle.std.specs.Prelude.{ℤ, pos, ◌*ℤ◌}
use Rattle.arith.specs.Sum.{sum_ℤ}
use Rattle.arith.specs.Floor.{floor_div}
use Rattle.layout.specs.declared.Table.{Table}
use Rattle.layout.specs.Contents.{rect}
use Rattle.rule.specs.Sums.{Image, full_sum, scaled_sum}

-- the full value: weight times full sum, over the rectangles
unfoldable pub full_value : Table → Image → (r c : ℤ) → ℤ
full_value t x r c = sum_ℤ t.count (λ k. (rect t k).weight *ℤ pos (full_sum x (rect t k) r c))

-- the value, or cut value: weight times cut sum scaled back, over the rectangles
unfoldable pub cut_value : Table → Image → (r c : ℤ) → ℤ
cut_value t x r c = sum_ℤ t.count (λ k. (rect t k).weight *ℤ pos (scaled_sum t x (rect t k) r c))

-- the pixel: the value divided by 2^t, rounded towards minus infinity
unfoldable pub pixel_of : Table → Image → (r c : ℤ) → ℤ
pixel_of t x r c = floor_div (cut_value t x r c) t.t
