-- How far a pixel is from the full one.
-- Assumes nothing.
use Rattle.std.specs.Prelude.{ℕ, ◌-◌, ◌^◌, ◌≡◌, List, [], ◌∷◌, ℤ, pos, neg_ℤ, ◌-ℤ◌, ◌≤ℤ◌}
use Rattle.arith.specs.Floor.{floor_div}
use Rattle.arith.specs.Tab.{grid}
use Rattle.layout.specs.declared.Table.{Table}
use Rattle.layout.specs.Answers.{accepted}
use Rattle.rule.specs.Sums.{Image, sample_at}
use Rattle.rule.specs.Pixels.{full_value, pixel_of}
use Rattle.pixel.specs.Call.{pixel_answer}
use Rattle.figures.specs.Measured.{pixels_above, pixels_below}

-- the full pixel: the full value divided by 2^t, rounded towards minus infinity
unfoldable pub full_pixel : Table → Image → (r c : ℤ) → ℤ
full_pixel t x r c = floor_div (full_value t x r c) t.t

-- the full pixel less the pixel
unfoldable pub pixel_off : Table → Image → (r c : ℤ) → ℤ
pixel_off t x r c = full_pixel t x r c -ℤ pixel_of t x r c

-- it lies between the two figures
pub record OffWithin (t : Table) (x : Image) (r c : ℤ) : Type 0 where
  pub low : neg_ℤ (pos (pixels_below t)) ≤ℤ pixel_off t x r c
  pub high : pixel_off t x r c ≤ℤ pos (pixels_above t)

-- the one-pixel call answers the pixel of a lent scan, and it is that far from the full one
pub record AnswerOff (t : Table) (l : ℕ) (xs : List ℕ) (r c : ℕ) : Type 0 where
  pub answer : pixel_answer t l xs r c ≡ accepted (pixel_of t (sample_at l xs) (pos r) (pos c) ∷ [])
  pub within : OffWithin t (sample_at l xs) (pos r) (pos c)

-- 31 by 31 samples of which every bit that q1 drops is set, and no other
unfoldable pub low_scan : Table → List ℕ
low_scan t = grid 31 31 (λ a b. 2 ^ t.q1 - 1)

-- the one-pixel call accepts that scan, and its centre pixel is this far from the full one
pub record Reaches (t : Table) (off : ℤ) : Type 0 where
  pub answer : pixel_answer t 31 (low_scan t) 15 15 ≡ accepted (pixel_of t (sample_at 31 (low_scan t)) (pos 15) (pos 15) ∷ [])
  pub reached : pixel_off t (sample_at 31 (low_scan t)) (pos 15) (pos 15) ≡ off
