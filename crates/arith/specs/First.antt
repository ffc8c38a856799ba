-- Assumes nothing.
use Rattle.std.specs.Prelude.{ℕ, zero, suc, Bool, cond}

-- the first of 0, 1, .., n - 1 where f does not hold, or n where it holds of all
unfoldable pub first_not : ℕ → (ℕ → Bool) → ℕ
first_not zero f = 0
first_not (suc n) f = cond (f 0) (suc (first_not n (λ k. f (suc k)))) 0
