-- Calls one after the other, each with the state that the one before left.
-- Assumes nothing.
use Rattle.std.specs.Prelude.{List, [], ◌∷◌, ℤ}
use Rattle.layout.specs.Answers.{Said, Left}

-- what a caller is told: what the call says, and what it leaves in the output lent to it
pub record Reply : Type 0 where
  pub said : Said
  pub out : List ℤ

abbrev pub reply : Said → (out : List ℤ) → Reply
reply said out = record { said = said; out = out }

abbrev pub reply_of : {S : Type 0} → Left S → Reply
reply_of x = reply x.said x.out

-- the replies of calls, by what one call does
unfoldable pub replies : {S C : Type 0} → (does : S → C → Left S) → S → List C → List Reply
replies does s [] = []
replies does s (c ∷ cs) = reply_of (does s c) ∷ replies does (does s c).state cs

-- and the state after them
unfoldable pub ended : {S C : Type 0} → (does : S → C → Left S) → S → List C → S
ended does s [] = s
ended does s (c ∷ cs) = ended does (does s c).state cs
