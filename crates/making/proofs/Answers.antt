-- What making a table answers is known by what it says.
-- Assumes nothing.
use Rattle.std.proofs.Common.{◌≡◌, ◌≤◌, ℕ, List, [], ◌∷◌, ℤ, pos, Result, Ok, Err, refl, ap, arith}
use Rattle.layout.specs.declared.Table.{Table}
use Rattle.layout.specs.declared.asking.Question.{Question}
use Rattle.layout.specs.declared.asking.Question.TheVariants.{Header, Contents, Bits, Drops, Word, Room, Field, Edges, Rectangle, Extremes, Table as TableAccepted, Width, Stores, State, Phase, Rows, Length, Samples, Carried, Place, WholeRows, Rank, RankedBits, Heads, NoDrops as NoDropped}
use Rattle.layout.specs.Questions.{number_of}
use Rattle.layout.proofs.Answers.{said_injective}
use Rattle.forms.specs.declared.faults.TextFault.{TextFault}
use Rattle.forms.specs.declared.faults.TextFault.TheVariants.{
  Unknown,
  BitsForm,
  DropsForm,
  ShiftForm,
  WordForm,
  RectangleForm,
  Weight,
  Twice,
  NoBits,
  NoDrops,
  NoShift,
  NoWord,
  TooLong,
}
use Rattle.forms.specs.Faults.{fault_number}
use Rattle.forms.proofs.Answers.{text_refusal_injective}
use Rattle.making.specs.declared.error.MakeError.{MakeError}
use Rattle.making.specs.declared.error.MakeError.TheVariants.{Rule, Text}
use Rattle.making.specs.Errors.{error_said, answer_said, made_said, made_given}

-- the rules' questions have numbers below those of the text's own faults
question_below : (q : Question) → number_of q ≤ 25
question_below Header = omega arith
question_below Contents = omega arith
question_below Bits = omega arith
question_below Drops = omega arith
question_below Word = omega arith
question_below Room = omega arith
question_below Field = omega arith
question_below Edges = omega arith
question_below Rectangle = omega arith
question_below Extremes = omega arith
question_below TableAccepted = omega arith
question_below Width = omega arith
question_below Stores = omega arith
question_below State = omega arith
question_below Phase = omega arith
question_below Rows = omega arith
question_below Length = omega arith
question_below Samples = omega arith
question_below Carried = omega arith
question_below Place = omega arith
question_below WholeRows = omega arith
question_below Rank = omega arith
question_below RankedBits = omega arith
question_below Heads = omega arith
question_below NoDropped = omega arith

fault_above : (f : TextFault) → 101 ≤ fault_number f
fault_above Unknown = omega arith
fault_above BitsForm = omega arith
fault_above DropsForm = omega arith
fault_above ShiftForm = omega arith
fault_above WordForm = omega arith
fault_above RectangleForm = omega arith
fault_above Weight = omega arith
fault_above Twice = omega arith
fault_above NoBits = omega arith
fault_above NoDrops = omega arith
fault_above NoShift = omega arith
fault_above NoWord = omega arith
fault_above TooLong = omega arith

-- why a text makes no table is known by what it says
pub error_injective : (d e : MakeError) → error_said d ≡ error_said e → d ≡ e
error_injective (Rule r) (Rule s) e = let q = said_injective (Err r) (Err s) e in cc
error_injective (Rule r) (Text s) e =
    absurd (let n = ap (λ x. x.number) e in let q = question_below r.question in let f = fault_above s.fault in omega arith)
error_injective (Text r) (Rule s) e =
    absurd (let n = ap (λ x. x.number) e in let q = question_below s.question in let f = fault_above r.fault in omega arith)
error_injective (Text r) (Text s) e = ap Text (text_refusal_injective r s (ap (λ x. x.number) e) (ap (λ x. x.place) e))

error_refused : (e : MakeError) → (error_said e).kind ≡ 0
error_refused (Rule r) = refl
error_refused (Text r) = refl

-- two answers that say the same are the same, where their values are
pub answer_injective : {A : Type 0} (values : A → List ℤ) → ((x y : A) → values x ≡ values y → x ≡ y)
    → (v w : Result A MakeError) → answer_said values v ≡ answer_said values w → v ≡ w
answer_injective values h (Ok x) (Ok y) e = ap Ok (h x y (ap (λ s. s.values) e))
answer_injective values h (Ok x) (Err d) e = absurd (let z = ap (λ s. s.kind) e in let k = error_refused d in omega arith)
answer_injective values h (Err d) (Ok y) e = absurd (let z = ap (λ s. s.kind) e in let k = error_refused d in omega arith)
answer_injective values h (Err d) (Err f) e = ap Err (error_injective d f e)

same_length : (n m : ℕ) → ◌≡◌ {A = List ℤ} (pos n ∷ []) (pos m ∷ []) → n ≡ m
same_length n m e = cc

pub made_injective : (v w : Result ℕ MakeError) → made_said v ≡ made_said w → v ≡ w
made_injective v w e = answer_injective (λ n. pos n ∷ []) same_length v w e

-- a table, or why there is none, is known by what it says and the table that it hands out
pub made_given_injective : (v w : Result Table MakeError) → made_given v ≡ made_given w → v ≡ w
made_given_injective (Ok t) (Ok u) e = ap Ok (ap (λ h. h.table) e)
made_given_injective (Ok t) (Err d) e = absurd (let z = ap (λ h. h.said.kind) e in let k = error_refused d in omega arith)
made_given_injective (Err d) (Ok t) e = absurd (let z = ap (λ h. h.said.kind) e in let k = error_refused d in omega arith)
made_given_injective (Err d) (Err f) e = ap Err (error_injective d f (ap (λ h. h.said) e))
