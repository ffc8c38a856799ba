-- What the parts of an arrival compute, and what they ask. The contract of an arrival uses none of this.
-- Assumes nothing.
use Rattle.std.specs.Prelude.{ℕ, ◌*◌, ◌^◌, ◌≤◌, ◌<◌, ◌≡◌, Bool, true, not, List, ◌++◌, T, ℤ, pos, length, get_or, drop}
use Rattle.arith.specs.All.{all}
use Rattle.arith.specs.Tab.{tab, grid, zeroed}
use Rattle.layout.specs.Measure.{rows_of}
use Rattle.limits.specs.Limits.{rect_good}
use Rattle.levels.specs.Levels.{count_at, moved_count_at, column_good_at, ranked}
use Rattle.histograms.specs.declared.Arrival.{Arrival}
use Rattle.histograms.specs.Windows.{window_count}
use Rattle.histograms.specs.Arrivals.{Counting, good_at, counts_after}
use Rattle.histograms.specs.Spans.{Zeros}

-- the column counts, of which a row leaves and another enters, each once or not at all
pub record ColumnsCount (a : Arrival) (counts off less on more : ℕ) : Type 0 where
  pub rect : rect_good a.rect ≡ true
  pub bits_most : a.b ≤ 8
  pub counts_long : a.width * 256 ≤ counts
  pub off_long : a.width ≤ off
  pub on_long : a.width ≤ on
  pub less_most : less ≤ 1
  pub more_most : more ≤ 1

pub record Moved (a : Arrival) (counts off : List ℕ) (less : ℕ) (on : List ℕ) (more : ℕ) (good : Bool) (after : List ℕ) : Type 0 where
  pub answer : good ≡ all a.width (column_good_at (2 ^ a.b) (rows_of a.rect) counts off less on more)
  pub moved : T good → after ≡ grid a.width 256 (moved_count_at counts off less on more) ++ drop (a.width * 256) counts
  pub kept : T (not good) → after ≡ counts
  pub long : length after ≡ length counts

-- the same of an arrival, with a line of zeros
pub record CountFits (v : Counting) (zeros : List ℕ) : Type 0 where
  pub rect : rect_good v.what.rect ≡ true
  pub bits_most : v.what.b ≤ 8
  pub width_most : v.what.width ≤ 1024
  pub number_most : v.what.number ≤ 65550
  pub long : length v.row ≡ v.what.width
  pub samples_long : 32 * v.what.width ≤ length v.samples
  pub counts_long : v.what.width * 256 ≤ length v.counts
  pub dark : Zeros 1024 zeros

pub record Counted (v : Counting) (good : Bool) (counts : List ℕ) : Type 0 where
  pub answer : good ≡ all v.what.width (good_at v)
  pub moved : T good → counts ≡ counts_after v
  pub kept : T (not good) → counts ≡ v.counts
  pub long : length counts ≡ length v.counts

-- the filtered row, from counts of at most 31 and zero window counts
pub record ShowFits (a : Arrival) (counts zeros windows : List ℕ) (out : ℕ) : Type 0 where
  pub rect : rect_good a.rect ≡ true
  pub bits_most : a.b ≤ 8
  pub ranked : 1 ≤ a.rank
  pub width_most : a.width ≤ 1024
  pub counts_long : a.width * 256 ≤ length counts
  pub dark : Zeros 1024 zeros
  pub small : (j u : ℕ) → j < a.width → u < 2 ^ a.b → count_at counts j u ≤ 31
  pub windows_long : 256 ≤ length windows
  pub none : (u : ℕ) → u < 256 → get_or windows u 0 ≡ 0
  pub lent : a.width ≤ out

pub record Shown (a : Arrival) (counts : List ℕ) (out₀ : List ℤ) (windows₀ : List ℕ) (out : List ℤ) (windows : List ℕ) : Type 0 where
  pub row : out ≡ tab a.width (λ c. ranked (2 ^ a.b) a.rank (window_count counts a.width a.rect (pos c))) ++ drop a.width out₀
  pub zero : windows ≡ zeroed 256 windows₀
