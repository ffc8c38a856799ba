-- The four calls: each from what it is given to all that it leaves.
-- Assumes nothing.
use Rattle.std.specs.Prelude.{ℕ, ◌+◌, ◌-◌, ◌*◌, ◌^◌, Bool, true, false, not, cond, ◌&&◌, List, [], ◌∷◌, ◌++◌, leb, ltb, eqb, length, ℤ}
use Rattle.arith.specs.Tab.{tab, zeroed}
use Rattle.layout.specs.declared.Table.{Table}
use Rattle.layout.specs.Answers.{Said, refused, accepted, done, due_at, Question, asks, asks_each, first_no, Left, left}
use Rattle.layout.specs.Measure.{delay_of}
use Rattle.limits.specs.Limits.{acceptable}
use Rattle.rule.specs.Mended.{mended}
use Rattle.rule.specs.Questions.{width_good, sample_good}
use Rattle.arrival.specs.Arrivals.{Arrival, arriving, stores_good, arrival_asks, samples_after, sums_after, output_after}
use Rattle.scan.specs.declared.Scan.{Scan}

-- a scan, and the stores that are lent on from call to call
pub record World : Type 0 where
  pub scan : Scan
  pub samples : List ℕ
  pub sums : List ℕ

abbrev pub world : Scan → (samples sums : List ℕ) → World
world s samples sums = record { scan = s; samples = samples; sums = sums }

-- question 14: the state's numbers agree
unfoldable pub agrees : Scan → Bool
agrees s =
    acceptable s.table && (width_good s.width
    && (leb s.rows 65535 && (leb s.steps (delay_of s.table) && cond s.closed true (eqb s.steps 0))))

-- question 13 of a row or a step: the stores are long enough, and the output has L places
unfoldable pub lent_good : Scan → (samples sums out : ℕ) → Bool
lent_good s samples sums out = stores_good s.width s.table.count samples sums && leb s.width out

-- ---- starting

-- a scan with no row in it
abbrev pub fresh : Table → (l : ℕ) → Scan
fresh t l = record { table = t; width = l; rows = 0; steps = 0; closed = false }

unfoldable pub start_asks : Table → (l samples sums : ℕ) → List Question
start_asks t l samples sums = asks 11 (acceptable t) ∷ asks 12 (width_good l) ∷ asks 13 (stores_good l t.count samples sums) ∷ []

-- 11, 12 and 13. Accepted, the first 32·L samples and (rectangles)·L sums are zero; refused, the scan has width 0, which question 14 refuses
unfoldable pub start_of : Table → (l : ℕ) → (samples sums : List ℕ) → Left World
start_of t l samples sums =
    first_no (start_asks t l (length samples) (length sums)) (λ n p. left (refused n p) (world (fresh t 0) samples sums) [])
    (left (accepted []) (world (fresh t l) (zeroed (32 * l) samples) (zeroed (t.count * l) sums)) [])

-- ---- an arrival

-- what arrives with a scan
abbrev pub arrival_of : World → (row : List ℕ) → Arrival
arrival_of w row = arriving w.scan.table w.scan.width (w.scan.rows + w.scan.steps) row w.samples w.sums

-- row a - D is out, or none is due yet
unfoldable pub due_said : Scan → Said
due_said s = due_at (s.rows + s.steps) (delay_of s.table)

-- an arrival that is taken in, and the scan after it
abbrev pub taken_in : World → (after : Scan) → Arrival → (out : List ℤ) → Left World
taken_in w after v out = left (due_said w.scan) (world after (samples_after v) (sums_after v)) (output_after v out)

-- ---- a row

-- the scan with one row more
abbrev pub row_in : Scan → Scan
row_in s = record { table = s.table; width = s.width; rows = s.rows + 1; steps = s.steps; closed = s.closed }

-- a row arrives mended
abbrev pub row_arrival : World → (row : List ℕ) → Arrival
row_arrival w row = arrival_of w (mended row)

-- the questions before 19; 18 is asked of the row as given
unfoldable pub row_asks : Scan → (row : List ℕ) → (samples sums out : ℕ) → List Question
row_asks s row samples sums out =
    asks 14 (agrees s)
    ∷ asks 15 (not s.closed)
    ∷ asks 16 (ltb s.rows 65535)
    ∷ asks 17 (eqb (length row) s.width)
    ∷ asks 13 (lent_good s samples sums out)
    ∷ asks_each 18 (length row) (sample_good (2 ^ s.table.b - 1) row)
    ∷ []

-- a row: 14, 15, 16, 17, 13, 18 and 19; refused, it leaves what it was given
unfoldable pub row_of : World → (row : List ℕ) → (out : List ℤ) → Left World
row_of w row out =
    first_no (row_asks w.scan row (length w.samples) (length w.sums) (length out) ++ arrival_asks (row_arrival w row))
    (λ n p. left (refused n p) w out) (taken_in w (row_in w.scan) (row_arrival w row) out)

-- ---- closing

abbrev pub shut : Scan → Scan
shut s = record { table = s.table; width = s.width; rows = s.rows; steps = s.steps; closed = true }

-- 14 and 15; no store is looked at
unfoldable pub close_of : World → Left World
close_of w =
    first_no (asks 14 (agrees w.scan) ∷ asks 15 (not w.scan.closed) ∷ []) (λ n p. left (refused n p) w [])
    (left (accepted []) (world (shut w.scan) w.samples w.sums) [])

-- ---- a closing step

-- the scan with one step more
abbrev pub step_in : Scan → Scan
step_in s = record { table = s.table; width = s.width; rows = s.rows; steps = s.steps + 1; closed = s.closed }

-- a closing step acts as a row of zeros
abbrev pub closing_of : World → Arrival
closing_of w = arrival_of w (tab w.scan.width (λ k. 0))

-- 14 and 15; done where D steps are past; then 13 and 19
unfoldable pub step_of : World → (out : List ℤ) → Left World
step_of w out =
    first_no (asks 14 (agrees w.scan) ∷ asks 15 w.scan.closed ∷ []) (λ n p. left (refused n p) w out)
    (cond (leb (delay_of w.scan.table) w.scan.steps) (left done w out)
    (first_no (asks 13 (lent_good w.scan (length w.samples) (length w.sums) (length out)) ∷ arrival_asks (closing_of w))
    (λ n p. left (refused n p) w out) (taken_in w (step_in w.scan) (closing_of w) out)))
