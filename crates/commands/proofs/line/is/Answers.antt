-- Byte by byte.
use Rattle.std.proofs.Common.{◌≡◌, ℕ, ◌&&◌, List, [], ◌∷◌, eqb, refl, sym, ap, ◌∙◌}
use lib.Pointwise.{pointwise}
use Rattle.words.specs.Words.{same}
use Rattle.commands.proofs.line.is.Goals as goal

same_is : (v w : List ℕ) → same v w ≡ pointwise eqb v w
unfolding same
same_is [] [] = refl
same_is [] (b ∷ w) = refl
same_is (a ∷ v) [] = refl
same_is (a ∷ v) (b ∷ w) = ap (λ t. eqb a b && t) (same_is v w)

pub returns : goal.returns
returns c = c.eq.ensures ∙ sym (same_is _ _)
