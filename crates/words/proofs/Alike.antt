-- Two words byte by byte: the comparison of slices is that of words.
-- Assumes nothing.
use Rattle.std.proofs.Common.{◌≡◌, ℕ, Bool, ◌&&◌, eqb, List, [], ◌∷◌, refl, sym, ap, ◌∙◌}
use Rattle.std.specs.Cmp.Lexicographic.{pointwise}
use Rattle.words.specs.Words.{same}

pub same_is : (x y : List ℕ) → pointwise eqb x y ≡ same x y
unfolding same
same_is [] [] = refl
same_is [] (b ∷ y) = refl
same_is (a ∷ x) [] = refl
same_is (a ∷ x) (b ∷ y) = ap (λ t. eqb a b && t) (same_is x y)

-- what a comparison with a text comes to
pub alike : {r t : Bool} (x y z : List ℕ) → r ≡ pointwise eqb x y → y ≡ z → r ≡ t → same x z ≡ t
alike x y z e f g = ap (same x) (sym f) ∙ sym (same_is x y) ∙ sym e ∙ g
