-- What the steps of an arrival compute for one rectangle, and what they ask. The contract of an arrival uses none of this.
-- Assumes nothing.
use Rattle.std.specs.Prelude.{ℕ, suc, ◌+◌, ◌-◌, ◌*◌, ◌/◌, ◌%◌, ◌^◌, ◌≤◌, ◌<◌, ◌≡◌, Bool, true, cond, List, T, eqb, ltb, ℤ, pos, ◌+ℤ◌, length, get_or}
use borrow.Rule.Slice.PartMut.{put_mid}
use Rattle.arith.specs.All.{all}
use Rattle.arith.specs.Part.{pos_part, neg_part}
use Rattle.arith.specs.Sum.{sum}
use Rattle.arith.specs.Tab.{tab}
use Rattle.layout.specs.declared.Rect.{Rect}
use Rattle.layout.specs.declared.Table.{Table}
use Rattle.layout.specs.Contents.{rect}
use Rattle.layout.specs.Measure.{cols_of}
use Rattle.arith.specs.Twos.{fits_signed}
use Rattle.limits.specs.Limits.{rect_good}
use Rattle.passes.specs.Passes.{bound_most, stepped, running, plus, value_most, part_most, scaled_end}
use Rattle.arrival.specs.Arrivals.{Arrival, leaving, entering, stored, sum_good, line_at, scaled_at}

-- 31 · (2^12 - 1), which no column sum of a table within the limits passes
abbrev pub sum_limit : ℕ
sum_limit = 126945

-- rectangle k's stored sum for column c with both steps, and with both rolled back
unfoldable pub updated_sum : Arrival → (k c : ℕ) → ℕ
updated_sum v k c = stepped (stored v k c) (leaving v k c) (entering v k c)

unfoldable pub rolled_back_sum : Arrival → (k c : ℕ) → ℕ
rolled_back_sum v k c = stepped (stored v k c) (entering v k c) (leaving v k c)

-- ---- lines of truncated column sums: 32 zeros, a place for each column, and zeros

-- place i of rectangle k's line
unfoldable pub line_of : Arrival → (k i : ℕ) → ℕ
line_of v k i = cond (ltb i 32) 0 (line_at v k (pos (i - 32)) / 2 ^ v.table.q2)

-- an edge raised by 16, which is from 0 to 31
abbrev pub place : (edge : ℤ) → ℕ
place edge = pos_part (edge +ℤ pos 16)

-- the window sum of a rectangle along a line, whose first place is s from its trail's
abbrev pub window_over : Rect → (line : ℕ → ℕ) → (s : ℕ) → ℕ
window_over d line s = sum (cols_of d) (λ j. line (place d.trailcol + s + j))

-- what enters a window at place i and what leaves it, modulo 2^32, where 2^32 - 1 times a number takes it off
abbrev pub change_over : Rect → (line : ℕ → ℕ) → (i : ℕ) → ℕ
change_over d line i = line (place d.leadcol + i) + 4294967295 * line (place d.trailcol + i)

-- a rectangle's share of the value at place i: the change of its window sum, or where q3 is not 0 the truncated window sum
unfoldable pub share_over : Rect → (q3 : ℕ) → (line : ℕ → ℕ) → (i : ℕ) → ℕ
share_over d q3 line i = cond (eqb q3 0) (change_over d line i) (window_over d line (suc i) / 2 ^ q3)

-- ---- values of 32 bits, modulo 2^32

-- a weight times 2^q
unfoldable pub factor_of : (weight : ℤ) → (q : ℕ) → ℕ
factor_of weight q = (pos_part weight + 4294967295 * neg_part weight) * 2 ^ q % 4294967296

-- the bits that a rectangle sum is scaled back by
abbrev pub scale : Table → ℕ
scale t = t.q1 + t.q2 + t.q3

-- the value at place i with a rectangle's share
abbrev pub with_share : Rect → (q3 q : ℕ) → (line : ℕ → ℕ) → (acc : List ℕ) → (i : ℕ) → ℕ
with_share d q3 q line acc i = (get_or acc i 0 + factor_of d.weight q * share_over d q3 line i) % 4294967296

-- ---- values of 64 bits, each above its bias

-- the value of column c with a rectangle's part: by its line, and by rectangle k at an arrival
abbrev pub with_line : Rect → (q3 q : ℕ) → (line : ℕ → ℕ) → (acc : List ℕ) → (c : ℕ) → ℕ
with_line d q3 q line acc c = plus (get_or acc c 0) (pos_part d.weight) (neg_part d.weight) (window_over d line (17 + c) / 2 ^ q3 * 2 ^ q)

abbrev pub with_part : Arrival → (k : ℕ) → (acc : List ℕ) → ℕ → ℕ
with_part v k acc c = let w = (rect v.table k).weight in plus (get_or acc c 0) (pos_part w) (neg_part w) (scaled_at v k c)

-- ---- what each step asks

-- a line with zeros but in the `width` places from place 32 on
pub record ZeroPadded (width : ℕ) (line : List ℕ) : Type 0 where
  pub places : width + 48 ≤ length line
  pub before : (i : ℕ) → i < 32 → get_or line i 0 ≡ 0
  pub after : (i : ℕ) → 32 + width ≤ i → get_or line i 0 ≡ 0

-- the running sums of such a line, in its first `width` + 48 places
pub record RunningSums (width : ℕ) (line summed : List ℕ) : Type 0 where
  pub places : length summed ≡ length line
  pub sums : (i : ℕ) → i < width + 48 → get_or summed i 0 ≡ running line i
  pub beyond : (i : ℕ) → width + 48 ≤ i → get_or summed i 0 ≡ 0

-- a line that is padded but in the 16 places after the row
pub record Unpadded (width : ℕ) (line : List ℕ) : Type 0 where
  pub places : width + 48 ≤ length line
  pub before : (i : ℕ) → i < 32 → get_or line i 0 ≡ 0
  pub beyond : (i : ℕ) → width + 48 ≤ i → get_or line i 0 ≡ 0

-- a rectangle within the limits, and a padded line of truncated column sums whose windows are within theirs
pub record LineFits (d : Rect) (q3 q width : ℕ) (line : List ℕ) : Type 0 where
  pub edges : T (rect_good d)
  pub weight : T (fits_signed 16 d.weight)
  pub q3_most : q3 ≤ 8
  pub q_most : q ≤ 27
  pub width_most : width ≤ 1024
  pub padded : ZeroPadded width line
  pub small : (i : ℕ) → get_or line i 0 ≤ bound_most
  pub window : (s : ℕ) → window_over d (λ i. get_or line i 0) s / 2 ^ q3 * 2 ^ q < scaled_end

-- values of 64 bits with room for one rectangle more
pub record ValuesFit (width : ℕ) (acc : List ℕ) : Type 0 where
  pub acc_long : width ≤ length acc
  pub value_least : (c : ℕ) → c < width → part_most ≤ get_or acc c 0
  pub value_at_most : (c : ℕ) → c < width → get_or acc c 0 ≤ value_most

-- ---- what each step leaves

-- `update`: whether question 19 holds of it, its sums updated, and its line where it holds
pub record Updated (v : Arrival) (k : ℕ) (good : Bool) (sums' line' : List ℕ) : Type 0 where
  pub answer : good ≡ all v.width (sum_good v k)
  pub sums : sums' ≡ put_mid (k * v.width) v.width v.sums (tab v.width (updated_sum v k))
  pub padded : ZeroPadded v.width line'
  pub line : good ≡ true → (i : ℕ) → get_or line' i 0 ≡ line_of v k i
