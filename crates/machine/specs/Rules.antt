-- What a filter is to the calls.
-- Assumes nothing.
use Rattle.std.specs.Prelude.{ℕ, ◌≤◌, ◌≡◌, Bool, true, false, List, [], ℤ}
use Rattle.layout.specs.Answers.{refused, accepted, Question, first_no, Left, left}
use Rattle.machine.specs.declared.Arrival.{Arrival}

-- F is a filter's own numbers beside the stores that are lent to it
pub record Rules (F : Type 0) : Type 0 where
  -- the questions on its own numbers
  pub asks : F → List Question
  -- D, the delay
  pub delay : F → ℕ
  -- the largest sample that is not dead
  pub top : F → ℕ
  -- question 13: the stores are long enough for a width of l
  pub holds : F → (l : ℕ) → Bool
  -- the filter before the first row of a scan of width l
  pub cleared : F → (l : ℕ) → F
  -- the questions on an arrival that only the filter asks
  pub arrival_asks : F → Arrival → (row : List ℕ) → List Question
  -- the filter after an arrival, and the output that was lent to it
  pub filter_after : F → Arrival → (row : List ℕ) → F
  pub output_after : F → Arrival → (row : List ℕ) → (out : List ℤ) → List ℤ

-- all questions on a filter's own numbers are answered yes
abbrev pub good : {F : Type 0} → Rules F → F → Bool
good r f = first_no (r.asks f) (λ n p. false) true

-- what an arrival leaves; refused, all is as it was
abbrev pub taken_of : {F : Type 0} → Rules F → F → Arrival → (row : List ℕ) → (out : List ℤ) → Left F
taken_of r f a row out =
    first_no (r.arrival_asks f a row) (λ n p. left (refused n p) f out)
    (left (accepted []) (r.filter_after f a row) (r.output_after f a row out))

-- what an arrival asks of its caller, with the lengths of the row and the output: at most 65,535 rows and 15 closing steps come before it
pub record Fits {F : Type 0} (r : Rules F) (f : F) (a : Arrival) (row out : ℕ) : Type 0 where
  pub numbers : good r f ≡ true
  pub width_most : a.width ≤ 1024
  pub number_most : a.number ≤ 65550
  pub long : row ≡ a.width
  pub stores : r.holds f a.width ≡ true
  pub lent : a.width ≤ out
