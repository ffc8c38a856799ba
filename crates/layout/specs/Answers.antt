-- What a call says, in the rules' numbers; its questions; and what it leaves.
-- Assumes nothing.
use Rattle.std.specs.Prelude.{ℕ, ◌-◌, Bool, cond, List, [], ◌∷◌, ltb, ℤ, pos, Result, Ok, Err}
use Rattle.arith.specs.All.{all}
use Rattle.arith.specs.First.{first_not}
use Rattle.layout.specs.declared.asking.Refusal.{Refusal}
use Rattle.layout.specs.declared.Answer.{Answer}
use Rattle.layout.specs.declared.Answer.TheVariants.{Row, Waiting, Refused as RowRefused}
use Rattle.layout.specs.declared.Closing.{Closing}
use Rattle.layout.specs.declared.Closing.TheVariants.{Row as LateRow, Waiting as StillWaiting, Done, Refused as StepRefused}
use Rattle.layout.specs.Questions.{number_of}

-- ---- what a call says

-- kind 0: refused, with the number and the place of the question answered no; 1: accepted, with the values that it answers;
-- 2: waiting; 3: done
pub record Said : Type 0 where
  pub kind : ℕ
  pub number : ℕ
  pub place : ℕ
  pub values : List ℤ

abbrev pub refused : (number place : ℕ) → Said
refused number place = record { kind = 0; number = number; place = place; values = [] }

abbrev pub accepted : (values : List ℤ) → Said
accepted values = record { kind = 1; number = 0; place = 0; values = values }

abbrev pub waiting : Said
waiting = record { kind = 2; number = 0; place = 0; values = [] }

abbrev pub done : Said
done = record { kind = 3; number = 0; place = 0; values = [] }

-- a no, by the number of its question
abbrev pub no_said : Refusal → Said
no_said r = refused (number_of r.question) r.place

-- an answer with a value or a no: what it says, by what its value says
abbrev pub result_said : {A : Type 0} → (values : A → List ℤ) → Result A Refusal → Said
result_said values (Ok x) = accepted (values x)
result_said values (Err r) = no_said r

-- a verdict, the answer to a row, and the answer to a closing step: a filtered row is said with its number
abbrev pub said : Result (Unit {0}) Refusal → Said
said v = result_said (λ x. []) v

abbrev pub answer_said : Answer → Said
answer_said (Row r) = accepted (pos r ∷ [])
answer_said Waiting = waiting
answer_said (RowRefused number place) = refused number place

abbrev pub closing_said : Closing → Said
closing_said (LateRow r) = accepted (pos r ∷ [])
closing_said StillWaiting = waiting
closing_said Done = done
closing_said (StepRefused number place) = refused number place

-- what an arrival says with delay d: row a - d is out, or none is due yet
abbrev pub due_at : (a d : ℕ) → Said
due_at a d = cond (ltb a d) waiting (accepted (pos (a - d) ∷ []))

-- ---- questions

-- a question: its number, the place of a no, and whether it is answered yes
pub record Question : Type 0 where
  pub number : ℕ
  pub place : ℕ
  pub holds : Bool

abbrev pub asks : (number : ℕ) → Bool → Question
asks number b = record { number = number; place = 0; holds = b }

-- one asked of each of 0 to n - 1: the place of a no is the lowest of them
abbrev pub asks_each : (number n : ℕ) → (ℕ → Bool) → Question
asks_each number n test = record { number = number; place = first_not n test; holds = all n test }

-- a call asks its questions in order: the first no ends it
abbrev pub first_no : {A : Type 0} → List Question → (refusal : (number place : ℕ) → A) → (accepted : A) → A
first_no [] refusal accepted = accepted
first_no (q ∷ qs) refusal accepted = cond q.holds (first_no qs refusal accepted) (refusal q.number q.place)

-- what the verdict of questions says
abbrev pub verdict : List Question → Said
verdict qs = first_no qs refused (accepted [])

-- ---- what a call leaves

-- what it says, the state after it, with the stores that are lent on from call to call, and the output that was lent to it
pub record Left (S : Type 0) : Type 0 where
  pub said : Said
  pub state : S
  pub out : List ℤ

abbrev pub left : {S : Type 0} → Said → S → (out : List ℤ) → Left S
left said state out = record { said = said; state = state; out = out }

-- what a call leaves that only writes: what it says, and the output
pub record Wrote : Type 0 where
  pub said : Said
  pub out : List ℕ

abbrev pub wrote : Said → (out : List ℕ) → Wrote
wrote said out = record { said = said; out = out }
