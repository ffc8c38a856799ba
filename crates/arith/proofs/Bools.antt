-- Laws of tests.
-- Assumes nothing.
use Rattle.std.proofs.Common.{◌≡◌, refl, sym, ◌∙◌, Bool, true, false, not, ◌||◌, T}
use Rattle.std.proofs.lemmas.Bool.{not-true, not-false}

-- two tests that hold together are equal
pub bool_eq : (a b : Bool) → (T a → T b) → (T b → T a) → a ≡ b
bool_eq true true f g = refl
bool_eq true false f g = absurd (f tt)
bool_eq false true f g = absurd (g tt)
bool_eq false false f g = refl

pub true_of : (a : Bool) → T a → a ≡ true
true_of true t = refl
true_of false t = absurd t

-- what a test `!g` says of the definition that g equals
pub yes : {g s : Bool} → g ≡ s → not g ≡ false → s ≡ true
yes e h = sym e ∙ not-false _ h

pub no : {g s : Bool} → g ≡ s → not g ≡ true → s ≡ false
no e h = sym e ∙ not-true _ h

pub or-true : (b : Bool) → (b || true) ≡ true
or-true true = refl
or-true false = refl
