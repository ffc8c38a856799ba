-- What the call answers is known by what it says.
-- Assumes nothing.
use Rattle.std.proofs.Common.{◌≡◌, refl, ap, ap₂, List, [], ◌∷◌, ℤ, length, arith, Option, None, Some, Result}
use Rattle.layout.specs.declared.asking.Refusal.{Refusal}
use Rattle.layout.specs.Answers.{accepted}
use Rattle.layout.proofs.Answers.{result_injective}
use Rattle.same.specs.declared.Offset.{Offset}
use Rattle.same.specs.Same.{offset_values, sameness_said}

-- no value, and two values
pub none_two : {y z : ℤ} → accepted [] ≡ accepted (y ∷ z ∷ []) → ⊥
none_two e = let n = ap (λ s. length s.values) e in omega arith

pub two_values : {x y z w : ℤ} → accepted (x ∷ y ∷ []) ≡ accepted (z ∷ w ∷ []) → (x ≡ z) × (y ≡ w)
two_values {x} {y} {z} {w} e = let v : ◌≡◌ {A = List ℤ} (x ∷ y ∷ []) (z ∷ w ∷ []) = ap (λ s. s.values) e in (cc, cc)

same_offset : (o p : Option Offset) → offset_values o ≡ offset_values p → o ≡ p
same_offset None None e = refl
same_offset None (Some p) e = absurd (let n = ap (λ l. length l) e in omega arith)
same_offset (Some o) None e = absurd (let n = ap (λ l. length l) e in omega arith)
same_offset (Some o) (Some p) e =
    let t = two_values (ap accepted e) in ap Some (ap₂ (λ r c. record { row = r; col = c }) t.0 t.1)

pub sameness_injective : (r s : Result (Option Offset) Refusal) → sameness_said r ≡ sameness_said s → r ≡ s
sameness_injective r s e = result_injective offset_values same_offset r s e
