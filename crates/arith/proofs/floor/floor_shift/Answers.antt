-- `arith::floor_shift` meets its contract: the shift rounds down, and from 2^63 on the quotient is that by 2^63.
-- Assumes nothing.
use Rattle.std.proofs.Common.{ℕ, zero, suc, ◌^◌, min, ◌≤◌, ◌<◌, arith, ⊎_elim, ◌⊎◌, inl, inr, lt_of_le_of_lt, lt_of_lt_of_le, ◌≡◌, refl, ap, ◌∙◌, ℤ, pos, negsuc, pow_mono, to_z-of_z}
use Rattle.std.specs.Int.Signed.{mag, shr_z, mag_shr}
use mir.Syntax.{w64}
use mir.Val.{SFits, to_z, of_z}
use Rattle.arith.specs.Floor.{floor_div}
use Rattle.arith.proofs.Floors.{floor_far}
use Rattle.arith.proofs.floor.floor_shift.Goals as goal

-- the word's shift is the floor division
shifted : (z : ℤ) (t : ℕ) → SFits w64 z → to_z w64 (of_z w64 (shr_z (to_z w64 (of_z w64 z)) (2 ^ t))) ≡ floor_div z t
unfolding floor_div
shifted z t f = rw (to_z-of_z f) (to_z-of_z {w = w64} (record { sfits = lt_of_le_of_lt (mag_shr z (2 ^ t)) f.sfits }) ∙ same z t)
  where
    same : (z : ℤ) (t : ℕ) → shr_z z (2 ^ t) ≡ floor_div z t
    same (pos n) t = refl
    same (negsuc n) t = refl

capped : (z : ℤ) (t : ℕ) → mag z < 2 ^ 63 → floor_div z (min t 63) ≡ floor_div z t
capped z t f = ⊎_elim
    (λ (l : t ≤ 63). ap (floor_div z) (omega arith))
    (λ (l : 63 ≤ t). ap (floor_div z) (omega arith) ∙ floor_far z 63 t f (lt_of_lt_of_le f (pow_mono {i = 63} l)))
    (le_or t 63)
  where
    le_or : (m n : ℕ) → (m ≤ n) ⊎ (n ≤ m)
    le_or zero n = inl (omega arith)
    le_or (suc m) zero = inr (omega arith)
    le_or (suc m) (suc n) = ⊎_elim (λ (l : m ≤ n). inl (omega arith)) (λ (l : n ≤ m). inr (omega arith)) (le_or m n)

pub returns : goal.returns
returns c = let a = c.args in
    let f : SFits w64 a.v = c.ranges.v in
    rw c.min.ensures (shifted a.v (min a.t 63) f ∙ capped a.v a.t f.sfits)
