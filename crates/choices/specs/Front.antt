-- What the theorems on the listed choices say.
-- Assumes nothing.
use Rattle.std.specs.Prelude.{ℕ, ◌*◌, ◌/◌, ◌<◌, ◌≡◌, true, ℤ, pos, neg_ℤ, ◌-ℤ◌, ◌≤ℤ◌}
use Rattle.layout.specs.declared.Table.{Table}
use Rattle.rule.specs.Pixels.{pixel_of}
use Rattle.rule.specs.Sums.{Image}
use Rattle.choices.specs.Choices.{with_drops, choice_count, rating, beats, listed}

-- a listed choice beats choice i
pub record Beaten (t : Table) (l i : ℕ) : Type 0 where
  pub by : ℕ
  pub among : by < choice_count t
  pub listed : listed t l by ≡ true
  pub beats : beats (rating t l by) (rating t l i) ≡ true

-- the choice with the same q1 and q2 and with q3 = 0
abbrev pub no_third : (i : ℕ) → ℕ
no_third i = i / 9 * 9

-- the pixel without drops less the pixel with choice i lies between the two figures of the choice
pub record ChoiceOff (t : Table) (l i : ℕ) (x : Image) (r c : ℤ) : Type 0 where
  pub low : neg_ℤ (pos (rating t l i).below) ≤ℤ (pixel_of (with_drops t 0) x r c -ℤ pixel_of (with_drops t i) x r c)
  pub high : (pixel_of (with_drops t 0) x r c -ℤ pixel_of (with_drops t i) x r c) ≤ℤ pos (rating t l i).above
