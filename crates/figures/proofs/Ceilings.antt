-- Division rounded up, and floors of numbers that are near to each other.
-- Assumes nothing.
use Rattle.std.proofs.Common.{ℕ, zero, suc, ◌+◌, ◌-◌, ◌*◌, ◌/◌, ◌%◌, ◌^◌, ◌≤◌, ◌<◌, mul-le-mul_left, add-one, arith, ◌≡◌, sym, ap, ◌∙◌, Bool, true, false, not, T, leb, leb→le, ℤ, pos, neg_ℤ, ◌-ℤ◌, pow_pos, ◌≤ℤ◌}
use Rattle.std.proofs.Math.Nat.{lt-div-mul-add, div-add-mod, div-eq_of_lt, div-eq-sub-div, zero-div, add-mul-div_left}
use Rattle.std.proofs.Math.Dec.{nleb→lt}
use Rattle.std.proofs.Math.Pow.{shr_mono}
use Rattle.arith.specs.Floor.{floor_div}
use Rattle.arith.specs.Part.{pos_part, neg_part}
use Rattle.arith.proofs.Floors.{floor_below, floor_above}
use Rattle.arith.proofs.Ints.{diff_pos, diff_neg, diff_parts, diff_add, diff_minus, diff_scale, diff_le, le_diff, lt_diff}
use Rattle.figures.specs.Measured.{ceil_div}

-- n ≤ ⌈n / 2^t⌉ · 2^t
pub ceil_above : (n t : ℕ) → n ≤ ceil_div n t * 2 ^ t
unfolding ceil_div
ceil_above n t = let p = pow_pos t in let h = lt-div-mul-add {a = n + (2 ^ t - 1)} p in omega arith

pub ceil_mono : (t : ℕ) {m n : ℕ} → m ≤ n → ceil_div m t ≤ ceil_div n t
unfolding ceil_div
ceil_mono t h = shr_mono t (omega arith)

-- a - b and c - d are floors by p of e - f and g - h, and e - f is at most n above g - h
near : (p k n a b c d e f g h : ℕ) → a * p + f ≤ e + b * p → g + d * p < (c + 1) * p + h → e + h ≤ n + (f + g) → n ≤ k * p → a + d ≤ k + (b + c)
near p k n a b c d e f g h x y z m = go (leb (a + d) (k + (b + c))) (leb→le _ _) (nleb→lt _ _)
  where
    go : (t : Bool) → (T t → a + d ≤ k + (b + c)) → (T (not t) → k + (b + c) < a + d) → a + d ≤ k + (b + c)
    go true yes? no? = yes? tt
    go false yes? no? = let s = mul-le-mul_left p (no? tt) in absurd (omega arith)

-- numbers that are between -n and m apart have floors that are between -⌈n / 2^t⌉ and ⌈m / 2^t⌉ apart
module _ (y z : ℤ) (t : ℕ) where
  abbrev fy : ℤ
  fy = floor_div y t

  abbrev fz : ℤ
  fz = floor_div z t

  pub floors_above : (m : ℕ) → (y -ℤ z) ≤ℤ pos m → (fy -ℤ fz) ≤ℤ pos (ceil_div m t)
  floors_above m h =
      let x = le_diff (diff_scale (2 ^ t) (diff_parts fy)) (diff_parts y) (floor_below y t) in
      let u = lt_diff (diff_parts z) (diff_scale (2 ^ t) (diff_add (diff_parts fz) (diff_pos 1))) (floor_above z t) in
      let v = le_diff (diff_minus (diff_parts y) (diff_parts z)) (diff_pos m) h in
      let w =
      near (2 ^ t) (ceil_div m t) m (pos_part fy) (neg_part fy) (pos_part fz) (neg_part fz) (pos_part y) (neg_part y) (pos_part z) (neg_part z) (omega arith) (omega arith)
      (omega arith) (ceil_above m t) in
      diff_le (diff_minus (diff_parts fy) (diff_parts fz)) (diff_pos (ceil_div m t)) (omega arith)

  pub floors_below : (n : ℕ) → neg_ℤ (pos n) ≤ℤ (y -ℤ z) → neg_ℤ (pos (ceil_div n t)) ≤ℤ (fy -ℤ fz)
  floors_below n h =
      let x = le_diff (diff_scale (2 ^ t) (diff_parts fz)) (diff_parts z) (floor_below z t) in
      let u = lt_diff (diff_parts y) (diff_scale (2 ^ t) (diff_add (diff_parts fy) (diff_pos 1))) (floor_above y t) in
      let v = le_diff (diff_neg n) (diff_minus (diff_parts y) (diff_parts z)) h in
      let w =
      near (2 ^ t) (ceil_div n t) n (pos_part fz) (neg_part fz) (pos_part fy) (neg_part fy) (pos_part z) (neg_part z) (pos_part y) (neg_part y) (omega arith) (omega arith)
      (omega arith) (ceil_above n t) in
      diff_le (diff_neg (ceil_div n t)) (diff_minus (diff_parts fy) (diff_parts fz)) (omega arith)

-- ⌊-n / 2^t⌋ is -⌈n / 2^t⌉
pub floor_negative : (n t : ℕ) → floor_div (neg_ℤ (pos n)) t ≡ neg_ℤ (pos (ceil_div n t))
unfolding floor_div ceil_div
floor_negative zero t = let p = pow_pos t in ap pos (zero-div (2 ^ t)) ∙ sym (ap (λ k. neg_ℤ (pos k)) (div-eq_of_lt {n = 0 + (2 ^ t - 1)} (omega arith)))
floor_negative (suc n) t =
    let p = pow_pos t in
    let e : suc n + (2 ^ t - 1) ≡ n + 2 ^ t = omega arith in
    let f : n + 2 ^ t - 2 ^ t ≡ n = omega arith in
    let d = div-eq-sub-div {n = n + 2 ^ t} p (omega arith) in
    let g : (suc n + (2 ^ t - 1)) / 2 ^ t ≡ suc (n / 2 ^ t) = ap (λ k. k / 2 ^ t) e ∙ d ∙ ap (λ k. k / 2 ^ t + 1) f ∙ add-one (n / 2 ^ t) in
    sym (ap (λ k. neg_ℤ (pos k)) g)

-- ⌊n / 2^t⌋ is ⌈n / 2^t⌉ where 2^t divides n
pub floor_whole : (n t : ℕ) → n % 2 ^ t ≡ 0 → floor_div (pos n) t ≡ pos (ceil_div n t)
unfolding floor_div ceil_div
floor_whole n t e =
    let p = pow_pos t in
    let d = div-add-mod n (2 ^ t) in
    let m : n + (2 ^ t - 1) ≡ 2 ^ t - 1 + 2 ^ t * (n / 2 ^ t) = omega arith in
    let z : (2 ^ t - 1) / 2 ^ t ≡ 0 = div-eq_of_lt (omega arith) in
    let g = add-mul-div_left (2 ^ t - 1) (n / 2 ^ t) p in
    ap pos (sym (ap (λ k. k / 2 ^ t) m ∙ g ∙ (omega arith)))
