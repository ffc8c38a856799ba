-- Bitwise OR is below neither of its arguments.
-- Assumes nothing.
use Prim.Native.Nat.{ℕ, ◌≤◌}
use native.Mathlib.Omega.{arith}
use lib.Bits.{bit_or, or_add_and, and_le_l, and_le_r}

pub or_ge_left : (a b : ℕ) → a ≤ bit_or a b
or_ge_left a b = omega (arith, or_add_and a b, and_le_r a b)

pub or_ge_right : (a b : ℕ) → b ≤ bit_or a b
or_ge_right a b = omega (arith, or_add_and a b, and_le_l a b)
