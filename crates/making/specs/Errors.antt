-- What the calls say, in the numbers of the rules and of the text's own faults.
-- Assumes nothing.
use Rattle.std.specs.Prelude.{ℕ, List, [], ◌∷◌, ℤ, pos, Result, Ok, Err}
use Rattle.layout.specs.declared.Table.{Table}
use Rattle.layout.specs.Contents.{no_rects, table_of}
use Rattle.layout.specs.Answers.{Said, refused, accepted, no_said}
use Rattle.table.specs.Format.{Handed, handed}
use Rattle.forms.specs.Faults.{fault_number}
use Rattle.making.specs.declared.error.MakeError.{MakeError}
use Rattle.making.specs.declared.error.MakeError.TheVariants.{Rule, Text}

-- a no to a question of the rules, or a fault of the text's own
abbrev pub error_said : MakeError → Said
error_said (Rule r) = no_said r
error_said (Text r) = refused (fault_number r.fault) r.place

-- an answer, by what its value says
abbrev pub answer_said : {A : Type 0} → (values : A → List ℤ) → Result A MakeError → Said
answer_said values (Ok x) = accepted (values x)
answer_said values (Err e) = error_said e

-- that of `make`, the length of a file
abbrev pub made_said : Result ℕ MakeError → Said
made_said v = answer_said (λ n. pos n ∷ []) v

-- a table, or why there is none
abbrev pub made_given : Result Table MakeError → Handed
made_given (Ok t) = handed (accepted []) t
made_given (Err e) = handed (error_said e) (table_of (no_rects 0 0 0 0 0 0))
