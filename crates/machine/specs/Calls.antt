-- The four calls over any filter: each from what it is given to all that it leaves.
-- Assumes nothing.
use Rattle.std.specs.Prelude.{ℕ, ◌+◌, Bool, true, false, not, cond, ◌&&◌, List, [], ◌∷◌, ◌++◌, leb, ltb, eqb, length, ℤ, pos, Option, Some, None, Result, Ok, Err}
use Rattle.arith.specs.Tab.{tab}
use Rattle.layout.specs.declared.asking.Refusal.{Refusal}
use Rattle.layout.specs.Answers.{Said, no_said, refused, accepted, waiting, done, due_at, Question, asks, asks_each, first_no, Left, left}
use Rattle.rule.specs.Mended.{mended}
use Rattle.rule.specs.Questions.{width_good, sample_good}
use Rattle.machine.specs.declared.Arrival.{Arrival}
use Rattle.machine.specs.declared.State.{State}
use Rattle.machine.specs.Rules.{Rules, good}

-- a scan: how far it is, and its filter
pub record Machine (F : Type 0) : Type 0 where
  pub state : State
  pub filter : F

abbrev pub machine : {F : Type 0} → State → F → Machine F
machine s f = record { state = s; filter = f }

-- question 14: the numbers of a scan agree
abbrev pub agrees : {F : Type 0} → Rules F → Machine F → Bool
agrees r m =
    good r m.filter && (width_good m.state.width
    && (leb m.state.rows 65535 && (leb m.state.steps (r.delay m.filter) && cond m.state.closed true (eqb m.state.steps 0))))

-- question 13 of a row or a step: the stores are long enough, and the output has L places
abbrev pub lent_good : {F : Type 0} → Rules F → Machine F → (out : ℕ) → Bool
lent_good r m out = r.holds m.filter m.state.width && leb m.state.width out

-- the number of a filtered row that is out, or none due yet
abbrev pub due_is : Option ℕ → Said
due_is (Some r) = accepted (pos r ∷ [])
due_is None = waiting

-- what is said of an answer that a refusal may stand in place of
abbrev pub said_by : {A : Type 0} → (A → Said) → Result A Refusal → Said
said_by f (Ok x) = f x
said_by f (Err r) = no_said r

-- ---- starting

-- a scan with no row in it
abbrev pub fresh : (l : ℕ) → State
fresh l = record { width = l; rows = 0; steps = 0; closed = false }

abbrev pub start_asks : {F : Type 0} → Rules F → F → (l : ℕ) → List Question
start_asks r f l = r.asks f ++ asks 12 (width_good l) ∷ asks 13 (r.holds f l) ∷ []

-- the filter's own questions, 12 and 13; refused, the scan has width 0, which question 14 refuses
abbrev pub start_of : {F : Type 0} → Rules F → F → (l : ℕ) → Left (Machine F)
start_of r f l =
    first_no (start_asks r f l) (λ n p. left (refused n p) (machine (fresh 0) f) []) (left (accepted []) (machine (fresh l) (r.cleared f l)) [])

-- ---- an arrival

-- what arrives with a scan, where so many rows are given
abbrev pub arrival_of : State → (given : ℕ) → Arrival
arrival_of s given = record { width = s.width; number = s.rows + s.steps; given = given }

-- row a - D is out, or none is due yet
abbrev pub due_said : {F : Type 0} → Rules F → Machine F → Said
due_said r m = due_at (m.state.rows + m.state.steps) (r.delay m.filter)

-- an arrival that is taken in, and the scan after it
abbrev pub taken_in : {F : Type 0} → Rules F → Machine F → (after : State) → Arrival → (row : List ℕ) → (out : List ℤ) → Left (Machine F)
taken_in r m after a row out =
    left (due_said r m) (machine after (r.filter_after m.filter a row)) (r.output_after m.filter a row out)

-- ---- a row

-- the scan with one row more
abbrev pub row_in : State → State
row_in s = record { width = s.width; rows = s.rows + 1; steps = s.steps; closed = s.closed }

-- the row is one of those given
abbrev pub row_arrival : State → Arrival
row_arrival s = arrival_of s (s.rows + 1)

-- the questions before the filter's; 18 is asked of the row as given
abbrev pub row_asks : {F : Type 0} → Rules F → Machine F → (row : List ℕ) → (out : ℕ) → List Question
row_asks r m row out =
    asks 14 (agrees r m)
    ∷ asks 15 (not m.state.closed)
    ∷ asks 16 (ltb m.state.rows 65535)
    ∷ asks 17 (eqb (length row) m.state.width)
    ∷ asks 13 (lent_good r m out)
    ∷ asks_each 18 (length row) (sample_good (r.top m.filter) row)
    ∷ []

-- a row arrives mended: 14, 15, 16, 17, 13, 18 and the filter's; refused, it leaves what it was given
abbrev pub row_of : {F : Type 0} → Rules F → Machine F → (row : List ℕ) → (out : List ℤ) → Left (Machine F)
row_of r m row out =
    first_no (row_asks r m row (length out) ++ r.arrival_asks m.filter (row_arrival m.state) (mended row))
    (λ n p. left (refused n p) m out) (taken_in r m (row_in m.state) (row_arrival m.state) (mended row) out)

-- ---- closing

abbrev pub shut : State → State
shut s = record { width = s.width; rows = s.rows; steps = s.steps; closed = true }

-- 14 and 15
abbrev pub close_of : {F : Type 0} → Rules F → Machine F → Left (Machine F)
close_of r m =
    first_no (asks 14 (agrees r m) ∷ asks 15 (not m.state.closed) ∷ []) (λ n p. left (refused n p) m [])
    (left (accepted []) (machine (shut m.state) m.filter) [])

-- ---- a closing step

-- the scan with one step more
abbrev pub step_in : State → State
step_in s = record { width = s.width; rows = s.rows; steps = s.steps + 1; closed = s.closed }

-- a closing step is a row of zeros, which is none of the rows given
abbrev pub step_arrival : State → Arrival
step_arrival s = arrival_of s s.rows

abbrev pub zeros : State → List ℕ
zeros s = tab s.width (λ k. 0)

-- 14 and 15; done where D steps are past; then 13 and the filter's
abbrev pub step_of : {F : Type 0} → Rules F → Machine F → (out : List ℤ) → Left (Machine F)
step_of r m out =
    first_no (asks 14 (agrees r m) ∷ asks 15 m.state.closed ∷ []) (λ n p. left (refused n p) m out)
    (cond (leb (r.delay m.filter) m.state.steps) (left done m out)
    (first_no (asks 13 (lent_good r m (length out)) ∷ r.arrival_asks m.filter (step_arrival m.state) (zeros m.state))
    (λ n p. left (refused n p) m out) (taken_in r m (step_in m.state) (step_arrival m.state) (zeros m.state) out)))
