-- What the steps of an arrival compute over all rectangles, and what they ask. The contract of an arrival uses none of this.
-- Assumes nothing.
use Rattle.std.specs.Prelude.{ℕ, ◌+◌, ◌*◌, ◌%◌, ◌≤◌, ◌<◌, ◌≡◌, Bool, true, false, ◌||◌, List, [], ◌++◌, T, ℤ, pos, ◌*ℤ◌, length, get_or, drop}
use Rattle.arith.specs.All.{all}
use Rattle.arith.specs.Diff.{Diff}
use Rattle.arith.specs.First.{first_not}
use Rattle.arith.specs.Sum.{sum, sum_ℤ}
use Rattle.arith.specs.Tab.{tab, grid}
use Rattle.layout.specs.declared.Table.{Table}
use Rattle.layout.specs.Contents.{rect}
use Rattle.arith.specs.Twos.{fits_signed}
use Rattle.layout.specs.Answers.{refused, accepted, first_no}
use Rattle.limits.specs.Slots.{areas_fit}
use Rattle.passes.specs.Passes.{bias, part_most}
use Rattle.arrival.specs.Arrivals.{Arrival, sum_good, scaled_at}
use Rattle.arrival.specs.Rectangles.{line_of, share_over, factor_of, scale, updated_sum, ZeroPadded}
use Rattle.arrival.specs.Arrivals.{arrival_asks, sums_after, output_after, Leaves, leaves}

-- ---- values of 32 bits, modulo 2^32

-- the shares of the first k rectangles at place i
unfoldable pub shares : Arrival → (k i : ℕ) → ℕ
shares v k i =
    sum k (λ j. let d = rect v.table j in factor_of d.weight (scale v.table) * share_over d v.table.q3 (line_of v j) i)

-- the accumulator holds the shares of the first k rectangles
pub record Weighed (v : Arrival) (k : ℕ) (acc : List ℕ) : Type 0 where
  pub long : v.width + 16 ≤ length acc
  pub value : (i : ℕ) → i < v.width + 16 → get_or acc i 0 ≡ shares v k i % 4294967296

-- on any stores whose sums pass question 19, every value of the table has 32 bits
unfoldable pub narrow_table : Table → Bool
narrow_table t = areas_fit t 0 32

-- ---- values of 64 bits, each above its bias

-- the accumulator holds the values of the first k rectangles
pub record Summed (v : Arrival) (k : ℕ) (acc : List ℕ) : Type 0 where
  pub long : v.width ≤ length acc
  pub value : (c : ℕ) → c < v.width → Diff (sum_ℤ k (λ i. (rect v.table i).weight *ℤ pos (scaled_at v i c))) (get_or acc c 0) bias
  pub low : (c : ℕ) → c < v.width → bias ≤ get_or acc c 0 + k * part_most
  pub high : (c : ℕ) → c < v.width → get_or acc c 0 ≤ bias + k * part_most

-- ---- either

-- on any stores whose sums pass question 19, every pixel fits its word
unfoldable pub sure_table : Table → Bool
sure_table t = areas_fit t t.t t.w

-- ---- what each step asks

-- question 19 holds of every rectangle's sums
abbrev pub AllGood : Arrival → Type 0
AllGood v = (k : ℕ) → k < v.table.count → T (all v.width (sum_good v k))

-- a padded line of the truncated column sums of rectangle k, of which question 19 holds
pub record Lined (v : Arrival) (k : ℕ) (line : List ℕ) : Type 0 where
  pub good : T (all v.width (sum_good v k))
  pub padded : ZeroPadded v.width line
  pub is : (i : ℕ) → get_or line i 0 ≡ line_of v k i

-- ---- what each step leaves

-- `values` stopped at the first rectangle that fails question 19: the sums are updated up to it, its own included
pub record Stopped (v : Arrival) (failed : ℕ) (sums : List ℕ) : Type 0 where
  pub first : failed ≡ first_not v.table.count (λ k. all v.width (sum_good v k))
  pub few : failed < v.table.count
  pub updated : sums ≡ grid (failed + 1) v.width (updated_sum v) ++ drop ((failed + 1) * v.width) v.sums

-- `values` went over all rectangles: none fails, and the sums are the new ones
pub record Complete (v : Arrival) (sums : List ℕ) : Type 0 where
  pub good : AllGood v
  pub updated : sums ≡ sums_after v

-- `write`: whether each pixel fits its word, asked where it is not sure; where they do, they are written
pub record Written (sure : Bool) (width word : ℕ) (pixel : ℕ → ℤ) (good : Bool) (out out' : List ℤ) : Type 0 where
  pub answer : good ≡ (sure || all width (λ c. fits_signed word (pixel c)))
  pub accepted : good ≡ true → out' ≡ tab width pixel ++ drop width out
  pub refused : good ≡ false → out' ≡ out

-- `take`: all that an arrival leaves, but the row is not kept yet
unfoldable pub take_of : Arrival → (out : List ℤ) → Leaves
take_of v out =
    first_no (arrival_asks v) (λ number place. leaves (refused number place) v.samples v.sums out)
    (leaves (accepted []) v.samples (sums_after v) (output_after v out))
