-- Assumes nothing.
use Rattle.std.specs.Prelude.{ℕ, zero, suc, max}

-- the largest of f 0, f 1, .., f (n - 1), or 0 where there is none
unfoldable pub largest : ℕ → (ℕ → ℕ) → ℕ
largest zero f = 0
largest (suc n) f = max (largest n f) (f n)
