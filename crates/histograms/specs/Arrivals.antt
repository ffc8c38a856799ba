-- What the arrival of a row does to a ranked window: the step described, on any stores.
-- Assumes nothing.
use Rattle.std.specs.Prelude.{ℕ, ◌*◌, ◌%◌, ◌^◌, ◌≤◌, ◌≡◌, Bool, true, false, cond, List, [], ◌∷◌, ◌++◌, ltb, length, drop, ℤ, pos, negsuc, ◌+ℤ◌, ◌-ℤ◌}
use Rattle.arith.specs.All.{all}
use Rattle.arith.specs.Part.{pos_part}
use Rattle.arith.specs.Tab.{tab, grid, paste, zeroed}
use Rattle.layout.specs.declared.Rect.{Rect}
use Rattle.layout.specs.Answers.{Said, refused, accepted, Question, asks, first_no}
use Rattle.layout.specs.Measure.{rows_of}
use Rattle.limits.specs.Limits.{rect_good}
use Rattle.ring.specs.Ring.{row_at}
use Rattle.levels.specs.Levels.{count_at, moved_count, column_good, ranked}
use Rattle.histograms.specs.declared.Arrival.{Arrival}
use Rattle.histograms.specs.Windows.{window_count}

-- an arrival: what arrives, the row, and the stores that it finds
pub record Counting : Type 0 where
  pub what : Arrival
  pub row : List ℕ
  pub samples : List ℕ
  pub counts : List ℕ

abbrev pub counting : Arrival → (row samples counts : List ℕ) → Counting
counting a row samples counts = record { what = a; row = row; samples = samples; counts = counts }

-- D of the one rectangle: its lead row, or 0 where that is negative
abbrev pub delay_by : Rect → ℕ
delay_by d = pos_part d.leadrow

-- ---- the rows that leave and enter

-- the row that an edge reaches: a - D + edge
unfoldable pub edge_row : Arrival → (edge : ℤ) → ℤ
edge_row a edge = (pos a.number -ℤ pos (delay_by a.rect)) +ℤ edge

-- row e counts where it is one of the rows given: a row below 0 and a closing row are passed over
unfoldable pub is_given : (given : ℕ) → (e : ℤ) → Bool
is_given given (pos e) = ltb e given
is_given given (negsuc e) = false

-- how often the row that an edge reaches counts: once, or not at all
unfoldable pub times_at : Arrival → (edge : ℤ) → ℕ
times_at a edge = cond (is_given a.given (edge_row a edge)) 1 0

-- its sample in column c; a row that is passed over stands as zeros that count 0 times, so that every question on them holds
unfoldable pub edge_at : Counting → (edge : ℤ) → (c : ℕ) → ℕ
edge_at v edge c = cond (is_given v.what.given (edge_row v.what edge)) (row_at v.what.width v.what.number v.row v.samples (edge_row v.what edge) c) 0

-- ---- question 19

-- the leaving and the entering sample of column c are levels, below 2^b, the leaving one is counted, and no level's count is above M afterwards
unfoldable pub good_at : Counting → (c : ℕ) → Bool
good_at v c =
    let d = v.what.rect in
    column_good (2 ^ v.what.b) (rows_of d) (count_at v.counts c) (edge_at v d.trailrow c) (times_at v.what d.trailrow) (edge_at v d.leadrow c) (times_at v.what d.leadrow)

unfoldable pub arrival_asks : Counting → List Question
arrival_asks v = asks 19 (all v.what.width (good_at v)) ∷ []

-- ---- what an accepted arrival leaves

-- the count of level u in column c, the leaving sample taken off and the entering one put on
unfoldable pub new_count : Counting → (c u : ℕ) → ℕ
new_count v c u =
    let d = v.what.rect in
    moved_count (count_at v.counts c) (edge_at v d.trailrow c) (times_at v.what d.trailrow) (edge_at v d.leadrow c) (times_at v.what d.leadrow) u

-- column c and level u at 256·c + u
unfoldable pub counts_after : Counting → List ℕ
counts_after v = grid v.what.width 256 (new_count v) ++ drop (v.what.width * 256) v.counts

-- the arriving row from place (a mod 32)·L on
unfoldable pub samples_after : Counting → List ℕ
samples_after v = paste (v.what.number % 32 * v.what.width) v.row v.samples

-- the ranked level at column c, by the new counts
unfoldable pub shade_at : Counting → (c : ℕ) → ℤ
shade_at v c = ranked (2 ^ v.what.b) v.what.rank (window_count (counts_after v) v.what.width v.what.rect (pos c))

-- the filtered row in the first L places, and none while waiting
unfoldable pub output_after : Counting → List ℤ → List ℤ
output_after v out = cond (ltb v.what.number (delay_by v.what.rect)) out (tab v.what.width (shade_at v) ++ drop v.what.width out)

-- what an arrival leaves: what it says, the stores and the output
pub record Leaves : Type 0 where
  pub said : Said
  pub samples : List ℕ
  pub counts : List ℕ
  pub windows : List ℕ
  pub out : List ℤ

abbrev pub leaves : Said → (samples counts windows : List ℕ) → (out : List ℤ) → Leaves
leaves said samples counts windows out = record { said = said; samples = samples; counts = counts; windows = windows; out = out }

-- question 19: refused, all is as it was; accepted, the window counts are zero
unfoldable pub arrive_of : Counting → (windows : List ℕ) → (out : List ℤ) → Leaves
arrive_of v windows out =
    first_no (arrival_asks v) (λ number place. leaves (refused number place) v.samples v.counts windows out)
    (leaves (accepted []) (samples_after v) (counts_after v) (zeroed 256 windows) (output_after v out))

-- ---- what an arrival asks of its caller, with the lengths of the window store and the output: at most 65,535 rows and 15 closing steps come before it

pub record Fits (v : Counting) (windows out : ℕ) : Type 0 where
  pub rect : rect_good v.what.rect ≡ true
  pub bits_most : v.what.b ≤ 8
  pub ranked : 1 ≤ v.what.rank
  pub width_most : v.what.width ≤ 1024
  pub number_most : v.what.number ≤ 65550
  pub long : length v.row ≡ v.what.width
  pub samples_long : 32 * v.what.width ≤ length v.samples
  pub counts_long : v.what.width * 256 ≤ length v.counts
  pub windows_long : 256 ≤ windows
  pub lent : v.what.width ≤ out
