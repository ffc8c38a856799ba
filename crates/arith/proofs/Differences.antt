-- The difference of two unsigned words as a signed one.
-- Assumes nothing.
use Rattle.std.proofs.Common.{ℕ, ◌^◌, ◌<◌, lt_of_lt_of_le, arith, ◌≡◌, ◌∙◌, lit≤, ◌-ℤ◌, to_z-of_z}
use Rattle.std.proofs.Math.IntN.{sub_ℕ}
use Rattle.std.proofs.Math.Facts.{to_z_pos}
use mir.Syntax.{w64}
use mir.Val.{SFits, to_z, of_z}
use Rattle.arith.proofs.Ints.{diff_pos, diff_sub, diff_minus, diff_eq, diff_size}

module _ (p n : ℕ) (hp : p < 2 ^ 62) (hn : n < 2 ^ 62) where
  subtracted : to_z w64 p -ℤ to_z w64 n ≡ sub_ℕ p n
  subtracted =
      rw (to_z_pos w64 {n = p} (lt_of_lt_of_le hp (lit≤ tt)), to_z_pos w64 {n = n} (lt_of_lt_of_le hn (lit≤ tt)))
      (diff_eq (diff_minus (diff_pos p) (diff_pos n)) (diff_sub p n) (omega arith))

  pub sub_fits : SFits w64 (to_z w64 p -ℤ to_z w64 n)
  sub_fits =
      rw subtracted (record { sfits = diff_size (2 ^ 63) (diff_sub p n) (lt_of_lt_of_le hp (lit≤ tt)) (omega arith) })

  pub sub_value : to_z w64 (of_z w64 (to_z w64 p -ℤ to_z w64 n)) ≡ sub_ℕ p n
  sub_value = to_z-of_z sub_fits ∙ subtracted
