-- What the arrival of a row does: the step described, on any stores.
-- Assumes nothing.
use Rattle.std.specs.Prelude.{ℕ, ◌+◌, ◌-◌, ◌*◌, ◌/◌, ◌%◌, ◌^◌, ◌≤◌, ◌≡◌, Bool, true, cond, ◌&&◌, ◌||◌, List, [], ◌∷◌, ◌++◌, leb, ltb, length, get_or, drop, ℤ, pos, negsuc, ◌+ℤ◌, ◌-ℤ◌, ◌*ℤ◌}
use Rattle.arith.specs.Sum.{sum, sum_ℤ}
use Rattle.arith.specs.All.{all}
use Rattle.arith.specs.Tab.{tab, grid, paste}
use Rattle.arith.specs.Floor.{floor_div}
use Rattle.arith.specs.Twos.{fits_signed}
use Rattle.layout.specs.declared.Rect.{Rect}
use Rattle.layout.specs.declared.Table.{Table}
use Rattle.layout.specs.Answers.{Said, refused, accepted, Question, asks_each, first_no}
use Rattle.layout.specs.Contents.{rect}
use Rattle.layout.specs.Measure.{rows_of, cols_of, delay_of}
use Rattle.limits.specs.Limits.{acceptable}
use Rattle.ring.specs.Ring.{row_at}
use Rattle.rule.specs.Sums.{covered}

-- an arrival: its number, counted from 0, the row that arrives, and the stores that it finds
pub record Arrival : Type 0 where
  pub table : Table
  pub width : ℕ
  pub number : ℕ
  pub row : List ℕ
  pub samples : List ℕ
  pub sums : List ℕ

-- what arrives with a table, in the code's terms
abbrev pub arriving : Table → (width number : ℕ) → (row samples sums : List ℕ) → Arrival
arriving t width number row samples sums =
    record { table = t; width = width; number = number; row = row; samples = samples; sums = sums }

-- the row that an edge reaches: a - D + edge
unfoldable pub edge_row : Arrival → (edge : ℤ) → ℤ
edge_row v edge = (pos v.number -ℤ pos (delay_of v.table)) +ℤ edge

-- the truncated sample that an edge reaches in column c; the leaving and the entering one of a rectangle
unfoldable pub cut_at : Arrival → (edge : ℤ) → (c : ℕ) → ℕ
cut_at v edge c = row_at v.width v.number v.row v.samples (edge_row v edge) c / 2 ^ v.table.q1

abbrev pub leaving : Arrival → (k c : ℕ) → ℕ
leaving v k c = cut_at v (rect v.table k).trailrow c

abbrev pub entering : Arrival → (k c : ℕ) → ℕ
entering v k c = cut_at v (rect v.table k).leadrow c

-- rectangle k's stored column sum before its cut, for column c
unfoldable pub stored : Arrival → (k c : ℕ) → ℕ
stored v k c = get_or v.sums (k * v.width + c) 0

-- the two steps of the sum: the leaving sample off, then the entering one on
abbrev pub less_sum : Arrival → (k c : ℕ) → ℕ
less_sum v k c = stored v k c - leaving v k c

unfoldable pub new_sum : Arrival → (k c : ℕ) → ℕ
new_sum v k c = less_sum v k c + entering v k c

-- M·(2^(b - q1) - 1), the most that a column sum can be
unfoldable pub sum_most : Table → Rect → ℕ
sum_most t d = rows_of d * (2 ^ (t.b - t.q1) - 1)

-- question 19 of one rectangle and column
unfoldable pub sum_good : Arrival → (k c : ℕ) → Bool
sum_good v k c = leb (leaving v k c) (stored v k c) && leb (new_sum v k c) (sum_most v.table (rect v.table k))

-- question 13: the sample store holds 32·L numbers, and the sum store a number for each rectangle and column
unfoldable pub stores_good : (l count samples sums : ℕ) → Bool
stores_good l count samples sums = leb (32 * l) samples && leb (count * l) sums

-- the new column sum of column j, 0 outside the row
unfoldable pub line_at : Arrival → (k : ℕ) → (j : ℤ) → ℕ
line_at v k (pos j) = cond (ltb j v.width) (new_sum v k j) 0
line_at v k (negsuc j) = 0

-- the window sum of the new column sums, cut
unfoldable pub window_at : Arrival → (k c : ℕ) → ℕ
window_at v k c =
    sum (cols_of (rect v.table k)) (λ j. line_at v k (covered (pos c) (rect v.table k).trailcol j) / 2 ^ v.table.q2)

-- and scaled back
unfoldable pub scaled_at : Arrival → (k c : ℕ) → ℕ
scaled_at v k c = window_at v k c / 2 ^ v.table.q3 * 2 ^ (v.table.q1 + v.table.q2 + v.table.q3)

-- the value of column c, and the filtered row's pixel
abbrev pub value_at : Arrival → (c : ℕ) → ℤ
value_at v c = sum_ℤ v.table.count (λ k. (rect v.table k).weight *ℤ pos (scaled_at v k c))

unfoldable pub pixel_at : Arrival → (c : ℕ) → ℤ
pixel_at v c = floor_div (value_at v c) v.table.t

-- a row that is due has only pixels that fit the pixel word
unfoldable pub due_good : Arrival → Bool
due_good v = ltb v.number (delay_of v.table) || all v.width (λ c. fits_signed v.table.w (pixel_at v c))

-- question 19: of the sums, place the lowest rectangle; last of the row that is due, place the number of rectangles
unfoldable pub arrival_asks : Arrival → List Question
arrival_asks v =
    asks_each 19 v.table.count (λ k. all v.width (sum_good v k))
    ∷ record { number = 19; place = v.table.count; holds = due_good v }
    ∷ []

-- ---- what an accepted arrival leaves

-- the arriving row from place (a mod 32)·L on
unfoldable pub samples_after : Arrival → List ℕ
samples_after v = paste (v.number % 32 * v.width) v.row v.samples

-- rectangle k's sum for column c at k·L + c
unfoldable pub sums_after : Arrival → List ℕ
sums_after v = grid v.table.count v.width (new_sum v) ++ drop (v.table.count * v.width) v.sums

-- the filtered row in the first L places, and none while waiting
unfoldable pub output_after : Arrival → List ℤ → List ℤ
output_after v out = cond (ltb v.number (delay_of v.table)) out (tab v.width (pixel_at v) ++ drop v.width out)

-- what an arrival leaves: what it says, the stores and the output
pub record Leaves : Type 0 where
  pub said : Said
  pub samples : List ℕ
  pub sums : List ℕ
  pub out : List ℤ

abbrev pub leaves : Said → (samples sums : List ℕ) → (out : List ℤ) → Leaves
leaves said samples sums out = record { said = said; samples = samples; sums = sums; out = out }

-- question 19: refused, all is as it was
unfoldable pub arrive_of : Arrival → (out : List ℤ) → Leaves
arrive_of v out =
    first_no (arrival_asks v) (λ number place. leaves (refused number place) v.samples v.sums out)
    (leaves (accepted []) (samples_after v) (sums_after v) (output_after v out))

-- ---- what an arrival asks of its caller, with the length of the output: at most 65,535 rows and 15 closing steps come before it

pub record Fits (v : Arrival) (out : ℕ) : Type 0 where
  pub table : acceptable v.table ≡ true
  pub width_most : v.width ≤ 1024
  pub number_most : v.number ≤ 65550
  pub long : length v.row ≡ v.width
  pub samples_long : 32 * v.width ≤ length v.samples
  pub sums_long : v.table.count * v.width ≤ length v.sums
  pub lent : v.width ≤ out
