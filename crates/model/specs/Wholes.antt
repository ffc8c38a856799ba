-- A whole scan, row by row, and the numbers of the rows that come out.
-- Assumes nothing.
use Rattle.std.specs.Prelude.{ℕ, zero, suc, ◌+◌, ◌-◌, ◌<◌, ◌≡◌, cond, List, [], ◌∷◌, ◌++◌, T, ltb, length, drop, ℤ, pos}
use Rattle.arith.specs.Tab.{tab}
use Rattle.layout.specs.Answers.{accepted, waiting, done}
use Rattle.layout.specs.Sequences.{Reply, reply}
use Rattle.model.specs.Rows.{good_rows}
use Rattle.model.specs.Machines.{Filter, Call, row_call, close_call, step_call, Machine}

-- a filter whose pixels are settled once row r + D is in: the rows that come later do not change them
pub record Settled (f : Filter) : Type 0 where
  pub later :
      (rows more : List (List ℕ)) → T (good_rows f.width f.bits rows) → (r c : ℕ) → r + f.delay < length rows
      → f.pixel rows r c ≡ f.pixel (rows ++ more) r c

-- the rows from arrival a on, where `outs a` is the output lent to arrival a
unfoldable pub row_calls : (outs : ℕ → List ℤ) → (a : ℕ) → List (List ℕ) → List Call
row_calls outs a [] = []
row_calls outs a (row ∷ rows) = row_call row (outs a) ∷ row_calls outs (suc a) rows

-- n closing steps from arrival a on
unfoldable pub step_calls : (outs : ℕ → List ℤ) → (a n : ℕ) → List Call
step_calls outs a zero = []
step_calls outs a (suc n) = step_call (outs a) ∷ step_calls outs (suc a) n

-- a whole scan: its rows, closing, D closing steps and one more
unfoldable pub whole_calls : Filter → (outs : ℕ → List ℤ) → List (List ℕ) → List Call
whole_calls f outs rows =
    row_calls outs 0 rows ++ (close_call ∷ (step_calls outs (length rows) f.delay ++ (step_call (outs (length rows + f.delay)) ∷ [])))

-- what arrival a is answered: waiting before arrival D, then row a - D by the pixel rule on the whole scan
unfoldable pub due_reply : Filter → (rows : List (List ℕ)) → (outs : ℕ → List ℤ) → (a : ℕ) → Reply
due_reply f rows outs a =
    cond (ltb a f.delay) (reply waiting (outs a))
    (reply (accepted (pos (a - f.delay) ∷ [])) (tab f.width (f.pixel rows (a - f.delay)) ++ drop f.width (outs a)))

-- the replies to n arrivals from arrival a on
unfoldable pub due_replies : Filter → (rows : List (List ℕ)) → (outs : ℕ → List ℤ) → (a n : ℕ) → List Reply
due_replies f rows outs a zero = []
due_replies f rows outs a (suc n) = due_reply f rows outs a ∷ due_replies f rows outs (suc a) n

-- the replies to a whole scan
unfoldable pub whole_replies : Filter → (outs : ℕ → List ℤ) → List (List ℕ) → List Reply
whole_replies f outs rows =
    due_replies f rows outs 0 (length rows)
    ++ (reply (accepted []) [] ∷ (due_replies f rows outs (length rows) f.delay ++ (reply done (outs (length rows + f.delay)) ∷ [])))

-- ---- the numbers of the rows that come out

-- the values of replies, one after the other: the numbers of the rows that came out
unfoldable pub numbers_of : List Reply → List ℤ
numbers_of [] = []
numbers_of (r ∷ rs) = r.said.values ++ numbers_of rs

-- how many rows have come out of a machine
abbrev pub rows_out : Filter → Machine → ℕ
rows_out f m = length m.rows + m.steps - f.delay
