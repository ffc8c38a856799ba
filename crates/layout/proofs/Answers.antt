-- An answer is known by what it says.
-- Assumes nothing.
use Rattle.std.proofs.Common.{ℕ, arith, ◌≡◌, refl, ap, ap₂, sym, ◌∙◌, get_or, List, [], ◌∷◌, ℤ, pos}
use Rattle.std.specs.Prelude.{Result, Ok, Err}
use Rattle.layout.specs.declared.asking.Question.{Question}
use Rattle.layout.specs.declared.asking.Question.TheVariants.{Header, Contents, Bits, Drops, Word, Room, Field, Edges, Rectangle, Extremes, Table, Width, Stores, State, Phase, Rows, Length, Samples, Carried, Place, WholeRows, Rank, RankedBits, Heads, NoDrops}
use Rattle.layout.specs.declared.asking.Refusal.{Refusal}
use Rattle.layout.specs.Questions.{number_of}
use Rattle.layout.specs.declared.Answer.{Answer}
use Rattle.layout.specs.declared.Answer.TheVariants.{Row, Waiting, Refused as RowRefused}
use Rattle.layout.specs.declared.Closing.{Closing}
use Rattle.layout.specs.declared.Closing.TheVariants.{Row as LateRow, Waiting as StillWaiting, Done, Refused as StepRefused}
use Rattle.layout.specs.Answers.{refused, accepted, result_said, said, answer_said, closing_said}

-- refusals that say the same have the same number and place
pub same_refusal : {A : Type 0} (f : (number place : ℕ) → A) {n p m q : ℕ} → refused n p ≡ refused m q → f n p ≡ f m q
same_refusal f e = ap₂ f (ap (λ s. s.number) e) (ap (λ s. s.place) e)

-- one value, said by itself
pub same_value : {z y : ℤ} → accepted (z ∷ []) ≡ accepted (y ∷ []) → z ≡ y
same_value {z} {y} e = let v : ◌≡◌ {A = List ℤ} (z ∷ []) (y ∷ []) = ap (λ s. s.values) e in cc

-- and a natural one
pub same_natural : {r s : ℕ} → accepted (pos r ∷ []) ≡ accepted (pos s ∷ []) → r ≡ s
same_natural {r} {s} e = let v : pos r ≡ pos s = same_value e in cc

-- the question of a number
abbrev pub question_of : ℕ → Question
question_of n =
    get_or (Header ∷ Header ∷ Contents ∷ Bits ∷ Drops ∷ Word ∷ Room ∷ Field ∷ Edges ∷ Rectangle ∷ Extremes ∷ Table ∷ Width ∷ Stores
    ∷ State ∷ Phase ∷ Rows ∷ Length ∷ Samples ∷ Carried ∷ Place ∷ WholeRows ∷ Rank ∷ RankedBits ∷ Heads ∷ NoDrops ∷ []) n Header

back : (q : Question) → question_of (number_of q) ≡ q
back Header = refl
back Contents = refl
back Bits = refl
back Drops = refl
back Word = refl
back Room = refl
back Field = refl
back Edges = refl
back Rectangle = refl
back Extremes = refl
back Table = refl
back Width = refl
back Stores = refl
back State = refl
back Phase = refl
back Rows = refl
back Length = refl
back Samples = refl
back Carried = refl
back Place = refl
back WholeRows = refl
back Rank = refl
back RankedBits = refl
back Heads = refl
back NoDrops = refl

-- a question is known by its number
pub number_injective : (p q : Question) → number_of p ≡ number_of q → p ≡ q
number_injective p q e = sym (back p) ∙ ap question_of e ∙ back q

no_injective : (r s : Refusal) → r.question ≡ s.question → r.place ≡ s.place → r ≡ s
no_injective r s e f = ap₂ (λ q p. record { question = q; place = p }) e f

-- two answers that say the same are the same, where their values are
pub result_injective : {A : Type 0} (values : A → List ℤ) → ((x y : A) → values x ≡ values y → x ≡ y)
    → (v w : Result A Refusal) → result_said values v ≡ result_said values w → v ≡ w
result_injective values h (Ok x) (Ok y) e = ap Ok (h x y (ap (λ s. s.values) e))
result_injective values h (Ok x) (Err r) e = absurd (let z = ap (λ s. s.kind) e in omega arith)
result_injective values h (Err r) (Ok x) e = absurd (let z = ap (λ s. s.kind) e in omega arith)
result_injective values h (Err r) (Err s) e =
    ap Err (no_injective r s (number_injective r.question s.question (ap (λ x. x.number) e)) (ap (λ x. x.place) e))

pub said_injective : (v w : Result (Unit {0}) Refusal) → said v ≡ said w → v ≡ w
said_injective v w e = result_injective (λ x. []) (λ x y f. refl) v w e

pub answer_injective : (a b : Answer) → answer_said a ≡ answer_said b → a ≡ b
answer_injective (Row r) (Row s) e = ap Row (same_natural e)
answer_injective (Row r) Waiting e = absurd (let z = ap (λ s. s.kind) e in omega arith)
answer_injective (Row r) (RowRefused n p) e = absurd (let z = ap (λ s. s.kind) e in omega arith)
answer_injective Waiting (Row r) e = absurd (let z = ap (λ s. s.kind) e in omega arith)
answer_injective Waiting Waiting e = refl
answer_injective Waiting (RowRefused n p) e = absurd (let z = ap (λ s. s.kind) e in omega arith)
answer_injective (RowRefused n p) (Row r) e = absurd (let z = ap (λ s. s.kind) e in omega arith)
answer_injective (RowRefused n p) Waiting e = absurd (let z = ap (λ s. s.kind) e in omega arith)
answer_injective (RowRefused n p) (RowRefused m q) e = same_refusal RowRefused e

pub closing_injective : (a b : Closing) → closing_said a ≡ closing_said b → a ≡ b
closing_injective (LateRow r) (LateRow s) e = ap LateRow (same_natural e)
closing_injective (LateRow r) StillWaiting e = absurd (let z = ap (λ s. s.kind) e in omega arith)
closing_injective (LateRow r) Done e = absurd (let z = ap (λ s. s.kind) e in omega arith)
closing_injective (LateRow r) (StepRefused n p) e = absurd (let z = ap (λ s. s.kind) e in omega arith)
closing_injective StillWaiting (LateRow r) e = absurd (let z = ap (λ s. s.kind) e in omega arith)
closing_injective StillWaiting StillWaiting e = refl
closing_injective StillWaiting Done e = absurd (let z = ap (λ s. s.kind) e in omega arith)
closing_injective StillWaiting (StepRefused n p) e = absurd (let z = ap (λ s. s.kind) e in omega arith)
closing_injective Done (LateRow r) e = absurd (let z = ap (λ s. s.kind) e in omega arith)
closing_injective Done StillWaiting e = absurd (let z = ap (λ s. s.kind) e in omega arith)
closing_injective Done Done e = refl
closing_injective Done (StepRefused n p) e = absurd (let z = ap (λ s. s.kind) e in omega arith)
closing_injective (StepRefused n p) (LateRow r) e = absurd (let z = ap (λ s. s.kind) e in omega arith)
closing_injective (StepRefused n p) StillWaiting e = absurd (let z = ap (λ s. s.kind) e in omega arith)
closing_injective (StepRefused n p) Done e = absurd (let z = ap (λ s. s.kind) e in omega arith)
closing_injective (StepRefused n p) (StepRefused m q) e = same_refusal StepRefused e
