-- The larger of two numbers, as std's `max` answers it.
-- Assumes nothing.
use Rattle.std.proofs.Common.{ℕ, ◌≡◌, max, arith, nat_cmp}
use Rattle.std.specs.Ordering.{ord_max}

pub ord_max-nat : (a b : ℕ) → ord_max nat_cmp a b ≡ max a b
ord_max-nat a b = grind arith
