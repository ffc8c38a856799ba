-- A loss figure, or its refusal, is known by what it says.
-- Assumes nothing.
use Rattle.std.proofs.Common.{◌≡◌, ℕ, [], ◌∷◌, List, ℤ, pos, Result}
use Rattle.layout.specs.declared.asking.Refusal.{Refusal}
use Rattle.layout.proofs.Answers.{result_injective}
use Rattle.limits.specs.Figures.{figure_said}

same_figure : (n m : ℕ) → ◌≡◌ {A = List ℤ} (pos n ∷ []) (pos m ∷ []) → n ≡ m
same_figure n m e = cc

pub figure_injective : (f g : Result ℕ Refusal) → figure_said f ≡ figure_said g → f ≡ g
figure_injective f g e = result_injective (λ n. pos n ∷ []) same_figure f g e
