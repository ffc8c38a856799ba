-- The machine: it has no stores, and answers each call by the rows that it took and the pixel rule that it is given.
-- Assumes nothing.
use Rattle.std.specs.Prelude.{ℕ, ◌+◌, ◌-◌, ◌^◌, Bool, true, false, not, cond, List, [], ◌∷◌, ◌++◌, leb, ltb, eqb, length, drop, ℤ, pos}
use Rattle.arith.specs.Tab.{tab}
use Rattle.layout.specs.Answers.{refused, accepted, waiting, done, Question, asks, asks_each, first_no, Left, left}
use Rattle.rule.specs.Questions.{sample_good}

-- what the machine has to know of a filter: b, the bits of a sample; L, the samples of a row; D, the delay; and the pixel that is due at row r,
-- column c, by the rows taken so far
pub record Filter : Type 0 where
  pub bits : ℕ
  pub width : ℕ
  pub delay : ℕ
  pub pixel : (rows : List (List ℕ)) → (r c : ℕ) → ℤ

-- a call: a row, closing, a closing step; each with the output that is lent to it
pub data Call : Type 0 where
  row_call : (row : List ℕ) → (out : List ℤ) → Call
  close_call : Call
  step_call : (out : List ℤ) → Call

-- the output lent to a call
unfoldable pub out_of : Call → List ℤ
out_of (row_call row out) = out
out_of close_call = []
out_of (step_call out) = out

-- the machine keeps the rows taken, the steps done, and whether it is closed
pub record Machine : Type 0 where
  pub rows : List (List ℕ)
  pub steps : ℕ
  pub closed : Bool

-- the machine with these
abbrev pub machine : (rows : List (List ℕ)) → (steps : ℕ) → (closed : Bool) → Machine
machine rows steps closed = record { rows = rows; steps = steps; closed = closed }

-- as it is started: no row, no step, open
abbrev pub opened : Machine
opened = machine [] 0 false

-- with one row more
abbrev pub with_row : Machine → (row : List ℕ) → Machine
with_row m row = machine (m.rows ++ (row ∷ [])) m.steps m.closed

-- closed
abbrev pub shut_down : Machine → Machine
shut_down m = machine m.rows m.steps true

-- with one step more
abbrev pub with_step : Machine → Machine
with_step m = machine m.rows (m.steps + 1) m.closed

-- arrival a: waiting before arrival D, then row a - D of these rows by the pixel rule, in the first L places of the output
unfoldable pub due_left : Filter → (a : ℕ) → (rows : List (List ℕ)) → (out : List ℤ) → (after : Machine) → Left Machine
due_left f a rows out after =
    cond (ltb a f.delay) (left waiting after out)
    (left (accepted (pos (a - f.delay) ∷ [])) after (tab f.width (f.pixel rows (a - f.delay)) ++ drop f.width out))

-- the questions of a row: 15, 16, 17, 13 on the output, and 18
unfoldable pub machine_asks : Filter → Machine → (row : List ℕ) → (out : ℕ) → List Question
machine_asks f m row out =
    asks 15 (not m.closed)
    ∷ asks 16 (ltb (length m.rows) 65535)
    ∷ asks 17 (eqb (length row) f.width)
    ∷ asks 13 (leb f.width out)
    ∷ asks_each 18 (length row) (sample_good (2 ^ f.bits - 1) row)
    ∷ []

-- a row that they accept is one more row of the scan, and an arrival
unfoldable pub machine_row : Filter → Machine → (row : List ℕ) → (out : List ℤ) → Left Machine
machine_row f m row out =
    first_no (machine_asks f m row (length out)) (λ n p. left (refused n p) m out)
    (due_left f (length m.rows) (m.rows ++ (row ∷ [])) out (with_row m row))

-- closing: 15
unfoldable pub machine_close : Machine → Left Machine
machine_close m = first_no (asks 15 (not m.closed) ∷ []) (λ n p. left (refused n p) m []) (left (accepted []) (shut_down m) [])

-- a closing step: 15, done where D steps are past, then 13; it is an arrival that brings no row
unfoldable pub machine_step : Filter → Machine → (out : List ℤ) → Left Machine
machine_step f m out =
    first_no (asks 15 m.closed ∷ []) (λ n p. left (refused n p) m out)
    (cond (leb f.delay m.steps) (left done m out)
    (first_no (asks 13 (leb f.width (length out)) ∷ []) (λ n p. left (refused n p) m out)
    (due_left f (length m.rows + m.steps) m.rows out (with_step m))))

-- what a call comes to
unfoldable pub answers : Filter → Machine → Call → Left Machine
answers f m (row_call row out) = machine_row f m row out
answers f m close_call = machine_close m
answers f m (step_call out) = machine_step f m out
