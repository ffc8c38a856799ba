-- What the functions behind questions 10 and 11 say of a struct's slots.
-- Assumes nothing.
use Rattle.std.specs.Prelude.{ℕ, ◌-◌, ◌*◌, ◌^◌, ◌≤◌, ◌≡◌, Bool, true, ◌&&◌}
use Rattle.arith.specs.Part.{pos_part, neg_part}
use Rattle.arith.specs.Twos.{fits_signed}
use Rattle.layout.specs.declared.Rect.{Rect}
use Rattle.layout.specs.declared.Table.{Table}
use Rattle.layout.specs.Contents.{rect}
use Rattle.grid.specs.Grid.{area_sum}
use Rattle.limits.specs.Limits.{word_good, rect_good, extremes_fit}

-- a rectangle passes question 8, and its weight has 16 bits
abbrev pub sound : Rect → Bool
sound r = rect_good r && fits_signed 16 r.weight

-- rectangle k does
abbrev pub slot_good : Table → ℕ → Bool
slot_good t k = sound (rect t k)

-- a header within the limits of questions 3 and 5
pub record HeadGood (t : Table) : Type 0 where
  pub bits : t.b ≤ 12
  pub word : word_good t.t t.w ≡ true

-- the extremes by the areas, divided by 2^shift and rounded down, fit words of `word` bits
abbrev pub areas_fit : Table → (shift word : ℕ) → Bool
areas_fit t shift word =
    extremes_fit ((2 ^ t.b - 1) * area_sum pos_part t.count (rect t)) ((2 ^ t.b - 1) * area_sum neg_part t.count (rect t)) shift word
