-- What a row answers is known by what it says.
-- Assumes nothing.
use Rattle.std.proofs.Common.{◌≡◌, ◌<◌, ℕ, Option, Some, None, Result, Ok, Err, refl, ap, arith}
use Rattle.layout.specs.declared.asking.Refusal.{Refusal}
use Rattle.layout.specs.Answers.{Said}
use Rattle.layout.proofs.Answers.{same_natural, said_injective}
use Rattle.machine.specs.Calls.{due_is, said_by}

pub due_injective : (o p : Option ℕ) → due_is o ≡ due_is p → o ≡ p
due_injective (Some r) (Some s) e = ap Some (same_natural e)
due_injective (Some r) None e = absurd (let z = ap (λ s. s.kind) e in omega arith)
due_injective None (Some s) e = absurd (let z = ap (λ s. s.kind) e in omega arith)
due_injective None None e = refl

-- where no answer says a refusal, and each is known by what it says, so is an answer that a refusal may stand in place of
pub said_by_injective : {A : Type 0} (f : A → Said) → ((x y : A) → f x ≡ f y → x ≡ y) → ((x : A) → 0 < (f x).kind)
    → (v w : Result A Refusal) → said_by f v ≡ said_by f w → v ≡ w
said_by_injective f h accepts (Ok x) (Ok y) e = ap Ok (h x y e)
said_by_injective f h accepts (Ok x) (Err r) e = absurd (let z = ap (λ s. s.kind) e in let k = accepts x in omega arith)
said_by_injective f h accepts (Err r) (Ok y) e = absurd (let z = ap (λ s. s.kind) e in let k = accepts y in omega arith)
said_by_injective f h accepts (Err r) (Err s) e = let q = said_injective (Err r) (Err s) e in cc

due_accepts : (o : Option ℕ) → 0 < (due_is o).kind
due_accepts (Some r) = omega arith
due_accepts None = omega arith

pub taken_injective : (v w : Result (Option ℕ) Refusal) → said_by due_is v ≡ said_by due_is w → v ≡ w
taken_injective v w e = said_by_injective due_is due_injective due_accepts v w e
