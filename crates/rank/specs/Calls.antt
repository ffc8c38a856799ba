-- The four calls of a ranked scan: each from what it is given to all that it leaves.
-- Assumes nothing.
use Rattle.std.specs.Prelude.{ℕ, ◌+◌, ◌-◌, ◌*◌, ◌^◌, Bool, true, false, not, cond, ◌&&◌, List, [], ◌∷◌, ◌++◌, leb, ltb, eqb, length, ℤ, pos}
use Rattle.arith.specs.Tab.{tab, zeroed}
use Rattle.layout.specs.declared.Rect.{Rect}
use Rattle.layout.specs.Answers.{Said, refused, accepted, done, due_at, Question, asks, asks_each, first_no, Left, left}
use Rattle.layout.specs.Measure.{rows_of, cols_of}
use Rattle.limits.specs.Limits.{bits_good, rect_good}
use Rattle.rule.specs.Mended.{mended}
use Rattle.rule.specs.Questions.{width_good, sample_good}
use Rattle.histograms.specs.declared.Arrival.{Arrival}
use Rattle.histograms.specs.Arrivals.{Counting, counting, delay_by, arrival_asks, samples_after, counts_after, output_after}
use Rattle.rank.specs.declared.Window.{Window}
use Rattle.rank.specs.declared.RankScan.{RankScan}

-- a scan, and the stores that are lent on from call to call
pub record World : Type 0 where
  pub scan : RankScan
  pub samples : List ℕ
  pub counts : List ℕ
  pub windows : List ℕ

abbrev pub world : RankScan → (samples counts windows : List ℕ) → World
world s samples counts windows = record { scan = s; samples = samples; counts = counts; windows = windows }

-- ---- the questions on a window, a rank, a state and the stores

-- a window as a rectangle of a table, of no weight
abbrev pub rect_of : Window → Rect
rect_of w = record { leadrow = w.leadrow; leadcol = w.leadcol; trailrow = w.trailrow; trailcol = w.trailcol; weight = pos 0 }

-- D: the lead row, or 0 where it is negative
abbrev pub rank_delay : RankScan → ℕ
rank_delay s = delay_by (rect_of s.window)

-- question 22: R is from 1 to M·N
unfoldable pub rank_good : Window → (rank : ℕ) → Bool
rank_good w rank = leb 1 rank && leb rank (rows_of (rect_of w) * cols_of (rect_of w))

-- b is from 1 to 8, the edges are those of a rectangle, and R is from 1 to M·N
unfoldable pub window_good : Window → (b rank : ℕ) → Bool
window_good w b rank = bits_good b && (leb b 8 && (rect_good (rect_of w) && rank_good w rank))

-- question 14: the state's numbers agree
unfoldable pub agrees : RankScan → Bool
agrees s =
    window_good s.window s.b s.rank && (width_good s.width
    && (leb s.rows 65535 && (leb s.steps (rank_delay s) && cond s.closed true (eqb s.steps 0))))

-- question 13: the sample store holds 32·L numbers, the column counts 256·L, and the window counts 256
unfoldable pub stores_good : (l samples counts windows : ℕ) → Bool
stores_good l samples counts windows = leb (32 * l) samples && (leb (256 * l) counts && leb 256 windows)

-- of a row or a step, the output has L places too
unfoldable pub lent_good : RankScan → (samples counts windows out : ℕ) → Bool
lent_good s samples counts windows out = stores_good s.width samples counts windows && leb s.width out

-- ---- starting

-- a scan with no row in it
abbrev pub fresh : (b : ℕ) → Window → (rank l : ℕ) → RankScan
fresh b w rank l = record { window = w; b = b; rank = rank; width = l; rows = 0; steps = 0; closed = false }

unfoldable pub start_asks : (b : ℕ) → Window → (rank l samples counts windows : ℕ) → List Question
start_asks b w rank l samples counts windows =
    asks 3 (bits_good b)
    ∷ asks 23 (leb b 8)
    ∷ asks 8 (rect_good (rect_of w))
    ∷ asks 22 (rank_good w rank)
    ∷ asks 12 (width_good l)
    ∷ asks 13 (stores_good l samples counts windows)
    ∷ []

-- 3, 23, 8, 22, 12 and 13. Accepted, the first 32·L samples, 256·L column counts and 256 window counts are zero; refused, the scan has
-- width 0, which question 14 refuses
unfoldable pub start_of : (b : ℕ) → Window → (rank l : ℕ) → (samples counts windows : List ℕ) → Left World
start_of b w rank l samples counts windows =
    first_no (start_asks b w rank l (length samples) (length counts) (length windows)) (λ n p. left (refused n p) (world (fresh b w rank 0) samples counts windows) [])
    (left (accepted []) (world (fresh b w rank l) (zeroed (32 * l) samples) (zeroed (256 * l) counts) (zeroed 256 windows)) [])

-- ---- an arrival

-- what arrives with a scan, where so many rows are given
abbrev pub arrival_of : RankScan → (given : ℕ) → Arrival
arrival_of s given = record { rect = rect_of s.window; b = s.b; rank = s.rank; width = s.width; number = s.rows + s.steps; given = given }

-- row a - D is out, or none is due yet
unfoldable pub due_said : RankScan → Said
due_said s = due_at (s.rows + s.steps) (rank_delay s)

-- an arrival that is taken in, and the scan after it: the window counts are zero
abbrev pub taken_in : World → (after : RankScan) → Counting → (out : List ℤ) → Left World
taken_in w after v out = left (due_said w.scan) (world after (samples_after v) (counts_after v) (zeroed 256 w.windows)) (output_after v out)

-- ---- a row

-- the scan with one row more
abbrev pub row_in : RankScan → RankScan
row_in s = record { window = s.window; b = s.b; rank = s.rank; width = s.width; rows = s.rows + 1; steps = s.steps; closed = s.closed }

-- a row arrives mended, and is one of the rows given
abbrev pub row_arrival : World → (row : List ℕ) → Counting
row_arrival w row = counting (arrival_of w.scan (w.scan.rows + 1)) (mended row) w.samples w.counts

-- the questions before 19; 18 is asked of the row as given
unfoldable pub row_asks : RankScan → (row : List ℕ) → (samples counts windows out : ℕ) → List Question
row_asks s row samples counts windows out =
    asks 14 (agrees s)
    ∷ asks 15 (not s.closed)
    ∷ asks 16 (ltb s.rows 65535)
    ∷ asks 17 (eqb (length row) s.width)
    ∷ asks 13 (lent_good s samples counts windows out)
    ∷ asks_each 18 (length row) (sample_good (2 ^ s.b - 1) row)
    ∷ []

-- a row: 14, 15, 16, 17, 13, 18 and 19; refused, it leaves what it was given
unfoldable pub row_of : World → (row : List ℕ) → (out : List ℤ) → Left World
row_of w row out =
    first_no (row_asks w.scan row (length w.samples) (length w.counts) (length w.windows) (length out) ++ arrival_asks (row_arrival w row))
    (λ n p. left (refused n p) w out) (taken_in w (row_in w.scan) (row_arrival w row) out)

-- ---- closing

abbrev pub shut : RankScan → RankScan
shut s = record { window = s.window; b = s.b; rank = s.rank; width = s.width; rows = s.rows; steps = s.steps; closed = true }

-- 14 and 15; no store is looked at
unfoldable pub close_of : World → Left World
close_of w =
    first_no (asks 14 (agrees w.scan) ∷ asks 15 (not w.scan.closed) ∷ []) (λ n p. left (refused n p) w [])
    (left (accepted []) (world (shut w.scan) w.samples w.counts w.windows) [])

-- ---- a closing step

-- the scan with one step more
abbrev pub step_in : RankScan → RankScan
step_in s = record { window = s.window; b = s.b; rank = s.rank; width = s.width; rows = s.rows; steps = s.steps + 1; closed = s.closed }

-- a closing step keeps a row of zeros, which is none of the rows given
abbrev pub closing_of : World → Counting
closing_of w = counting (arrival_of w.scan w.scan.rows) (tab w.scan.width (λ k. 0)) w.samples w.counts

-- 14 and 15; done where D steps are past; then 13 and 19
unfoldable pub step_of : World → (out : List ℤ) → Left World
step_of w out =
    first_no (asks 14 (agrees w.scan) ∷ asks 15 w.scan.closed ∷ []) (λ n p. left (refused n p) w out)
    (cond (leb (rank_delay w.scan) w.scan.steps) (left done w out)
    (first_no (asks 13 (lent_good w.scan (length w.samples) (length w.counts) (length w.windows) (length out)) ∷ arrival_asks (closing_of w))
    (λ n p. left (refused n p) w out) (taken_in w (step_in w.scan) (closing_of w) out)))
