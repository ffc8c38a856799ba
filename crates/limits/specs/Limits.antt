-- The limits of a table: what the questions on its numbers ask.
-- Assumes nothing.
use Rattle.std.specs.Prelude.{ℕ, ◌-◌, ◌*◌, ◌^◌, Bool, cond, ◌&&◌, List, [], ◌∷◌, leb, ltb, eqb, length, get_or, ℤ, pos, negsuc, neg_ℤ}
use Rattle.std.specs.Int.Signed.{le_z, lt_z}
use Rattle.arith.specs.All.{all}
use Rattle.arith.specs.Part.{pos_part, neg_part}
use Rattle.arith.specs.Floor.{floor_div}
use Rattle.arith.specs.Twos.{fits_signed}
use Rattle.layout.specs.declared.Rect.{Rect}
use Rattle.layout.specs.declared.Table.{Table}
use Rattle.layout.specs.Answers.{Question, asks}
use Rattle.layout.specs.Contents.{Contents, contents, no_rect}
use Rattle.grid.specs.Grid.{area_sum, grid_sum}

-- question 3: b is from 1 to 12
unfoldable pub bits_good : (b : ℕ) → Bool
bits_good b = leb 1 b && leb b 12

-- question 4: q1 is below b, and q2 and q3 are at most 8
unfoldable pub drops_good : (b q1 q2 q3 : ℕ) → Bool
drops_good b q1 q2 q3 = ltb q1 b && (leb q2 8 && leb q3 8)

-- question 5: t is at most 31, and w from 8 to 32
unfoldable pub word_good : (t w : ℕ) → Bool
word_good t w = leb t 31 && (leb 8 w && leb w 32)

-- questions 3 to 5, on a header's numbers
unfoldable pub head_asks : (b q1 q2 q3 t w : ℕ) → List Question
head_asks b q1 q2 q3 t w = asks 3 (bits_good b) ∷ asks 4 (drops_good b q1 q2 q3) ∷ asks 5 (word_good t w) ∷ []

-- a lead from -15 to 15, its trail from -16 to 14 and below it
unfoldable pub edges_good : (lead trail : ℤ) → Bool
edges_good lead trail =
    le_z (negsuc 14) lead && (le_z lead (pos 15) && (le_z (negsuc 15) trail && (le_z trail (pos 14) && lt_z trail lead)))

-- question 8: the edges of both axes
unfoldable pub rect_good : Rect → Bool
rect_good r = edges_good r.leadrow r.trailrow && edges_good r.leadcol r.trailcol

-- no bits are dropped
unfoldable pub no_drops : Contents → Bool
no_drops c = eqb c.q1 0 && (eqb c.q2 0 && eqb c.q3 0)

-- M-104: the extreme over what is positive, or negative: (2^b - 1) times the sum over the weight grid, or where bits are dropped over the areas
unfoldable pub extreme : (part : ℤ → ℕ) → Contents → ℕ
extreme part c =
    (2 ^ c.b - 1)
    * cond (no_drops c) (grid_sum part (length c.rects) (λ k. get_or c.rects k no_rect))
    (area_sum part (length c.rects) (λ k. get_or c.rects k no_rect))

-- an upper and a lower extreme, divided by 2^t and rounded down, fit words of w bits
unfoldable pub extremes_fit : (high low t w : ℕ) → Bool
extremes_fit high low t w = fits_signed w (floor_div (pos high) t) && fits_signed w (floor_div (neg_ℤ (pos low)) t)

-- question 10: the extremes fit the pixel word
unfoldable pub value_good : Contents → Bool
value_good c = extremes_fit (extreme pos_part c) (extreme neg_part c) c.t c.w

-- the extremes by the areas alone fit it, which is question 10 as it was before M-104
unfoldable pub areas_good : Contents → Bool
areas_good c =
    extremes_fit ((2 ^ c.b - 1) * area_sum pos_part (length c.rects) (λ k. get_or c.rects k no_rect))
    ((2 ^ c.b - 1) * area_sum neg_part (length c.rects) (λ k. get_or c.rects k no_rect)) c.t c.w

-- the limits but question 10: questions 3, 4 and 5 on the header, 1 to 16 rectangles, question 8 on each and a weight of 16 bits
unfoldable pub shaped : Contents → Bool
shaped c =
    bits_good c.b && (drops_good c.b c.q1 c.q2 c.q3 && (word_good c.t c.w
    && (leb 1 (length c.rects) && (leb (length c.rects) 16
    && all (length c.rects) (λ k. rect_good (get_or c.rects k no_rect) && fits_signed 16 (get_or c.rects k no_rect).weight)))))

-- a table within the limits
unfoldable pub within : Contents → Bool
within c = shaped c && value_good c

-- questions 3 to 5, at most 16 rectangles, and question 10
unfoldable pub fitting : Table → Bool
fitting t =
    bits_good t.b && (drops_good t.b t.q1 t.q2 t.q3 && (word_good t.t t.w && (leb t.count 16 && value_good (contents t))))

-- question 11: the struct holds a table within the limits
unfoldable pub acceptable : Table → Bool
acceptable t = within (contents t)
