-- Floor division by a power of two: the largest whole number that times 2^t is not above z, monotone, no larger in size.
-- Assumes nothing.
use Rattle.std.proofs.Common.{ℕ, ◌/◌, ◌^◌, ◌<◌, div-mul-le_self, arith, ◌≡◌, sym, ap, ◌∙◌, le→leb, leb→le, pow_pos, ℤ, pos, negsuc, ◌+ℤ◌, ◌*ℤ◌, ◌≤ℤ◌, ◌<ℤ◌}
use Rattle.std.proofs.Math.Nat.{lt-div-mul-add, div-eq_of_lt}
use Rattle.std.proofs.Math.Pow.{shr_mono}
use Rattle.std.specs.Int.Signed.{mag}
use Rattle.arith.specs.Floor.{floor_div}
use Rattle.arith.proofs.Ints.{diff_pos, diff_parts, diff_scale, diff_add, diff_le, diff_lt}

-- ⌊z / 2^t⌋ · 2^t ≤ z
pub floor_below : (z : ℤ) (t : ℕ) → (floor_div z t *ℤ pos (2 ^ t)) ≤ℤ z
unfolding floor_div
floor_below (pos n) t =
    let h = div-mul-le_self n (2 ^ t) in
    diff_le (diff_scale (2 ^ t) (diff_pos (n / 2 ^ t))) (diff_pos n) (omega arith)
floor_below (negsuc n) t =
    let h = lt-div-mul-add {a = n} (pow_pos t) in
    diff_le (diff_scale (2 ^ t) (diff_parts (negsuc (n / 2 ^ t)))) (diff_parts (negsuc n)) (omega arith)

-- z < (⌊z / 2^t⌋ + 1) · 2^t
pub floor_above : (z : ℤ) (t : ℕ) → z <ℤ ((floor_div z t +ℤ pos 1) *ℤ pos (2 ^ t))
unfolding floor_div
floor_above (pos n) t =
    let h = lt-div-mul-add {a = n} (pow_pos t) in
    diff_lt (diff_pos n) (diff_scale (2 ^ t) (diff_add (diff_pos (n / 2 ^ t)) (diff_pos 1))) (omega arith)
floor_above (negsuc n) t =
    let h = div-mul-le_self n (2 ^ t) in
    diff_lt (diff_parts (negsuc n)) (diff_scale (2 ^ t) (diff_add (diff_parts (negsuc (n / 2 ^ t))) (diff_pos 1))) (omega arith)

pub floor_mono : {y z : ℤ} (t : ℕ) → y ≤ℤ z → floor_div y t ≤ℤ floor_div z t
unfolding floor_div
floor_mono {y = pos a} {z = pos b} t h = record { le = le→leb _ _ (shr_mono t (leb→le a b h.le)) }
floor_mono {y = pos a} {z = negsuc b} t h = absurd h.le
floor_mono {y = negsuc a} {z = pos b} t h = record { le = tt }
floor_mono {y = negsuc a} {z = negsuc b} t h = record { le = le→leb _ _ (shr_mono t (leb→le b a h.le)) }

-- where 2^s and 2^t are both above the size, the quotient is the same: 0 or -1
pub floor_far : (z : ℤ) (s t : ℕ) → mag z < 2 ^ s → mag z < 2 ^ t → floor_div z s ≡ floor_div z t
unfolding floor_div
floor_far (pos n) s t h k = ap pos (div-eq_of_lt h) ∙ ap pos (sym (div-eq_of_lt k))
floor_far (negsuc n) s t h k = ap negsuc (div-eq_of_lt h) ∙ ap negsuc (sym (div-eq_of_lt k))
