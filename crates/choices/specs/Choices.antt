-- Which choices of the three drops are worth having.
-- Assumes nothing.
use Rattle.std.specs.Prelude.{ℕ, ◌*◌, ◌/◌, ◌%◌, min, Option, Some, None, Bool, true, false, not, ◌&&◌, ◌||◌, leb, ltb}
use Rattle.arith.specs.All.{all}
use Rattle.layout.specs.declared.Table.{Table}
use Rattle.figures.specs.declared.Figures.{Figures}
use Rattle.figures.specs.Measured.{figures_of}

-- a choice by its number i = (q1 · 9 + q2) · 9 + q3, put into a table in place of its own
abbrev pub with_drops : Table → (i : ℕ) → Table
with_drops t i =
    record { b = t.b; q1 = i / 81; q2 = i / 9 % 9; q3 = i % 9; t = t.t; w = t.w; count = t.count; rects = t.rects }

-- how many there are: q1 from 0 to b - 1, q2 and q3 from 0 to 8; at most 972, as b is at most 12
unfoldable pub choice_count : Table → ℕ
choice_count t = min (81 * t.b) 972

-- what is compared of a choice: whether it is accepted, the bits of all its sums, and how far a pixel may be from the full one
pub record Rating : Type 0 where
  pub accepted : Bool
  pub sums : ℕ
  pub below : ℕ
  pub above : ℕ

abbrev pub rating_of : Option Figures → Rating
rating_of (Some f) = record { accepted = true; sums = f.sums; below = f.below; above = f.above }
rating_of None = record { accepted = false; sums = 0; below = 0; above = 0 }

-- y beats x: it is accepted, each of its three figures is at most that of x, and one of them is less
unfoldable pub beats : (y x : Rating) → Bool
beats y x =
    y.accepted && ((leb y.sums x.sums && (leb y.below x.below && leb y.above x.above))
    && (ltb y.sums x.sums || (ltb y.below x.below || ltb y.above x.above)))

-- number i of n is accepted and none of them beats it
unfoldable pub unbeaten : (n : ℕ) → (ℕ → Rating) → (i : ℕ) → Bool
unbeaten n f i = (f i).accepted && all n (λ j. not (beats (f j) (f i)))

-- the rating of a choice of a table's at width l
unfoldable pub rating : Table → (l i : ℕ) → Rating
rating t l i = rating_of (figures_of (with_drops t i) l)

-- a choice is listed
unfoldable pub listed : Table → (l i : ℕ) → Bool
listed t l i = unbeaten (choice_count t) (rating t l) i
