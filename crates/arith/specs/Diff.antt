-- Assumes nothing.
use Rattle.std.specs.Prelude.{ℕ, suc, ◌+◌, ◌≡◌, ℤ, pos, negsuc}

abbrev SignedDiff : ℤ → ℕ → ℕ → Type 0
SignedDiff (pos a) p n = a + n ≡ p
SignedDiff (negsuc a) p n = suc a + p ≡ n

-- z is p - n
pub record Diff (z : ℤ) (p n : ℕ) : Type 0 where
  pub is : SignedDiff z p n
