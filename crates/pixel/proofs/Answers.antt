-- What the one-pixel call answers is known by what it says.
-- Assumes nothing.
use Rattle.std.proofs.Common.{◌≡◌, [], ◌∷◌, List, ℤ, Result}
use Rattle.layout.specs.declared.asking.Refusal.{Refusal}
use Rattle.layout.proofs.Answers.{result_injective}
use Rattle.pixel.specs.Call.{found_said}

same_pixel : (p q : ℤ) → ◌≡◌ {A = List ℤ} (p ∷ []) (q ∷ []) → p ≡ q
same_pixel p q e = cc

pub found_injective : (f g : Result ℤ Refusal) → found_said f ≡ found_said g → f ≡ g
found_injective f g e = result_injective (λ p. p ∷ []) same_pixel f g e
