-- Two's complement: a word of n bits as a signed number, and back.
-- Assumes nothing.
use Rattle.std.specs.Prelude.{ℕ, suc, ◌-◌, ◌^◌, Bool, cond, ◌&&◌, ltb, ℤ, pos, negsuc, neg_ℤ}
use Rattle.std.specs.Int.Signed.{le_z, lt_z}

-- x where the top bit of the n is clear, and x - 2^n where it is set
unfoldable pub signed : ℕ → ℕ → ℤ
signed n x = cond (ltb x (2 ^ (n - 1))) (pos x) (negsuc (2 ^ n - suc x))

-- z, or z + 2^n where z is negative
unfoldable pub unsigned : ℕ → ℤ → ℕ
unsigned n (pos x) = x
unsigned n (negsuc x) = 2 ^ n - suc x

-- z is from -2^(n - 1) to 2^(n - 1) - 1
unfoldable pub fits_signed : ℕ → ℤ → Bool
fits_signed n z = le_z (neg_ℤ (pos (2 ^ (n - 1)))) z && lt_z z (pos (2 ^ (n - 1)))
