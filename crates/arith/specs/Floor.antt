-- Division by a power of two, rounded towards minus infinity.
-- Assumes nothing.
use Rattle.std.specs.Prelude.{ℕ, ◌/◌, ◌^◌, ℤ, pos, negsuc}

-- ⌊z / 2^t⌋; -(n + 1) is `negsuc n`, and ⌊-(n + 1) / p⌋ is -(n / p + 1)
unfoldable pub floor_div : ℤ → ℕ → ℤ
floor_div (pos n) t = pos (n / 2 ^ t)
floor_div (negsuc n) t = negsuc (n / 2 ^ t)
