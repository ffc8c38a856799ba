-- Laws of two's complement, for any number of bits.
-- Assumes nothing.
use Rattle.std.proofs.Common.{ℕ, zero, suc, ◌+◌, ◌-◌, ◌*◌, ◌/◌, ◌%◌, ◌^◌, ◌≤◌, ◌<◌, zero-le, div-lt_iff_lt-mul, lt_of_lt_of_le, mod-eq_of_lt, arith, ◌≡◌, refl, sym, ap, ◌∙◌, subst, Bool, true, false, cond, not, ◌&&◌, T, lit<, ltb, leb, ltb→lt, nltb→le, lt→ltb, leb→le, le→leb, ℤ, pos, negsuc, neg_ℤ, ◌≤ℤ◌, pow_pos, pow_mono, pow-add, shl_exact, lt-ltb, le-ltb}
use Rattle.std.proofs.Math.Nat.{pow-succ', zero-div, add-mod_right}
use Rattle.std.proofs.Math.IntN.{sub_ℕ}
use Rattle.std.specs.Int.Signed.{mag, le_z, lt_z}
use Rattle.std.proofs.Math.Facts.{and_yes, yes_and}
use Rattle.arith.specs.Diff.{Diff}
use Rattle.arith.specs.Twos.{signed, unsigned, fits_signed}
use Rattle.arith.specs.Floor.{floor_div}
use Rattle.arith.proofs.Bools.{bool_eq}
use Rattle.arith.proofs.Ints.{diff_pos, diff_neg, diff_parts, diff_sub, diff_le, le_diff}

-- 2^n is twice 2^(n - 1)
pub pow_half : (n : ℕ) → 0 < n → 2 ^ n ≡ 2 ^ (n - 1) + 2 ^ (n - 1)
pow_half n h =
    let e : n ≡ suc (n - 1) = omega arith in
    ap (λ k. 2 ^ k) e ∙ (let p = pow-succ' 2 (n - 1) in omega arith)

-- and 2^(n - 1) is a shift of 1, in a word of w bits
pub half_shl : (w n : ℕ) → 0 < n → n ≤ w → 1 * 2 ^ (n - 1) % 2 ^ w ≡ 2 ^ (n - 1)
half_shl w n h l = let e = shl_exact {a = 1} 1 (n - 1) w (lit< tt) (omega arith) in omega arith

pub twice_shl : (w n : ℕ) → 0 < n → n ≤ w → 2 * (1 * 2 ^ (n - 1) % 2 ^ w) ≡ 2 ^ n
twice_shl w n h l = let e = half_shl w n h l in let p = pow_half n h in omega arith

-- ---- the range of a signed word, as a bound on the size

low_end : (p : ℕ) (z : ℤ) → 0 < p → T (le_z (neg_ℤ (pos p)) z && lt_z z (pos p)) → mag z < p
low_end p (pos x) h t = ltb→lt x p (and_yes (le_z (neg_ℤ (pos p)) (pos x)) (ltb x p) t).1
low_end p (negsuc x) h t =
    let l : neg_ℤ (pos p) ≤ℤ negsuc x = record { le = (and_yes (le_z (neg_ℤ (pos p)) (negsuc x)) true t).0 } in
    let i = le_diff (diff_neg p) (diff_parts (negsuc x)) l in
    omega arith

in_range : (p : ℕ) (z : ℤ) → mag z < p → T (le_z (neg_ℤ (pos p)) z && lt_z z (pos p))
in_range p (pos x) h =
    let l : neg_ℤ (pos p) ≤ℤ pos x = diff_le (diff_neg p) (diff_pos x) (omega arith) in
    yes_and (le_z (neg_ℤ (pos p)) (pos x)) (ltb x p) l.le (lt→ltb x p h)
in_range p (negsuc x) h =
    let l : neg_ℤ (pos p) ≤ℤ negsuc x = diff_le (diff_neg p) (diff_parts (negsuc x)) (omega arith) in
    yes_and (le_z (neg_ℤ (pos p)) (negsuc x)) true l.le tt

pub fits_mag : (n : ℕ) (z : ℤ) → T (fits_signed n z) → mag z < 2 ^ (n - 1)
unfolding fits_signed
fits_mag n z t = low_end (2 ^ (n - 1)) z (pow_pos (n - 1)) t

pub mag_fits : (n : ℕ) (z : ℤ) → mag z < 2 ^ (n - 1) → T (fits_signed n z)
unfolding fits_signed
mag_fits n z h = in_range (2 ^ (n - 1)) z h

pub fits_size : (n : ℕ) (z : ℤ) → fits_signed n z ≡ ltb (mag z) (2 ^ (n - 1))
fits_size n z = bool_eq _ _ (λ t. lt→ltb _ _ (fits_mag n z t)) (λ t. mag_fits n z (ltb→lt _ _ t))

-- ---- words and their signed numbers

pub signed_low : (n x : ℕ) → x < 2 ^ (n - 1) → signed n x ≡ pos x
unfolding signed
signed_low n x h = rw (lt-ltb x (2 ^ (n - 1)) h)

pub signed_high : (n x : ℕ) → 2 ^ (n - 1) ≤ x → signed n x ≡ negsuc (2 ^ n - suc x)
unfolding signed
signed_high n x h = rw (le-ltb x (2 ^ (n - 1)) h)

-- a word is its signed number's word
pub unsigned_signed : (n x : ℕ) → 0 < n → x < 2 ^ n → unsigned n (signed n x) ≡ x
unfolding signed unsigned
unsigned_signed n x p h = go (ltb x (2 ^ (n - 1)))
  where
    go : (c : Bool) → unsigned n (cond c (pos x) (negsuc (2 ^ n - suc x))) ≡ x
    go true = refl
    go false = omega arith

-- the signed number of a word fits
pub signed_fits : (n x : ℕ) → 0 < n → x < 2 ^ n → T (fits_signed n (signed n x))
unfolding signed
signed_fits n x p h = mag_fits n (signed n x) (go (ltb x (2 ^ (n - 1))) (ltb→lt x (2 ^ (n - 1))) (nltb→le x (2 ^ (n - 1))))
  where
    go : (c : Bool) → (T c → x < 2 ^ (n - 1)) → (T (not c) → 2 ^ (n - 1) ≤ x) → mag (cond c (pos x) (negsuc (2 ^ n - suc x))) < 2 ^ (n - 1)
    go true f g = f tt
    go false f g = let e = pow_half n p in let l = g tt in omega arith

-- a signed number that fits is its word's signed number
pub signed-unsigned : (n : ℕ) (z : ℤ) → 0 < n → T (fits_signed n z) → signed n (unsigned n z) ≡ z
unfolding unsigned
signed-unsigned n (pos x) p t = signed_low n x (fits_mag n (pos x) t)
signed-unsigned n (negsuc x) p t =
    let e = pow_half n p in
    let h = fits_mag n (negsuc x) t in
    signed_high n (2 ^ n - suc x) (omega arith) ∙ ap negsuc (omega arith)

-- the word of a number that fits is a word
pub unsigned-lt : (n : ℕ) (z : ℤ) → 0 < n → T (fits_signed n z) → unsigned n z < 2 ^ n
unfolding unsigned
unsigned-lt n (pos x) p t = let e = pow_half n p in let h = fits_mag n (pos x) t in omega arith
unsigned-lt n (negsuc x) p t = let q = pow_pos n in omega arith

-- ---- a quotient in a word, as a test on ℕ

-- ⌊n / 2^t⌋ fits the word
pub floor_fits_pos : (w t n : ℕ) → fits_signed w (floor_div (pos n) t) ≡ ltb (n / 2 ^ t) (2 ^ (w - 1))
unfolding floor_div
floor_fits_pos w t n = fits_size w (pos (n / 2 ^ t))

-- ⌊-n / 2^t⌋ fits the word exactly when n is at most 2^(w - 1) · 2^t
pub floor_fits_neg : (w t n : ℕ) → fits_signed w (floor_div (neg_ℤ (pos n)) t) ≡ leb n (2 ^ (w - 1) * 2 ^ t)
unfolding floor_div
floor_fits_neg w t zero =
    bool_eq _ _ (λ h. le→leb 0 (2 ^ (w - 1) * 2 ^ t) zero-le)
    (λ h. mag_fits w (pos (0 / 2 ^ t)) (subst (λ x. x < 2 ^ (w - 1)) (sym (zero-div (2 ^ t))) (pow_pos (w - 1))))
floor_fits_neg w t (suc n) =
    bool_eq _ _
    (λ h. le→leb _ _ ((div-lt_iff_lt-mul (pow_pos t)).0 (fits_mag w (negsuc (n / 2 ^ t)) h)))
    (λ h. mag_fits w (negsuc (n / 2 ^ t)) ((div-lt_iff_lt-mul (pow_pos t)).1 (leb→le _ _ h)))

-- ⌊z / 2^t⌋ fits w bits exactly when z fits w + t
pub floor_fits : (w t : ℕ) (z : ℤ) → 0 < w → fits_signed w (floor_div z t) ≡ fits_signed (w + t) z
unfolding floor_div
floor_fits w t z h =
    let e : w + t - 1 ≡ w - 1 + t = omega arith in
    fits_size w (floor_div z t) ∙ ap (λ m. ltb m (2 ^ (w - 1))) (size z)
    ∙ bool_eq (ltb (mag z / 2 ^ t) (2 ^ (w - 1))) (ltb (mag z) (2 ^ (w - 1) * 2 ^ t))
    (λ u. lt→ltb _ _ ((div-lt_iff_lt-mul (pow_pos t)).0 (ltb→lt _ _ u)))
    (λ u. lt→ltb _ _ ((div-lt_iff_lt-mul (pow_pos t)).1 (ltb→lt _ _ u)))
    ∙ ap (λ p. ltb (mag z) p) (sym (pow-add 2 (w - 1) t) ∙ ap (λ k. 2 ^ k) (sym e)) ∙ sym (fits_size (w + t) z)
  where
    size : (z : ℤ) → mag (floor_div z t) ≡ mag z / 2 ^ t
    size (pos n) = refl
    size (negsuc n) = refl

-- what fits a word fits a longer one
pub fits_widen : (n m : ℕ) (z : ℤ) → n ≤ m → T (fits_signed n z) → T (fits_signed m z)
fits_widen n m z l t = mag_fits m z (lt_of_lt_of_le (fits_mag n z t) (pow_mono (omega arith)))

-- ---- a number raised by half of the range, modulo a power of two, as a test on ℕ

-- p - n fits k bits exactly when it is r less half of the range for an r below 2^k
raised_fits : (k : ℕ) {z : ℤ} {p n : ℕ} → 0 < k → Diff z p n → (r : ℕ) → r + n ≡ p + 2 ^ (k - 1) → ltb r (2 ^ k) ≡ fits_signed k z
raised_fits k {z = pos a} h d r e =
    let i = d.is in
    let q = pow_half k h in
    bool_eq (ltb r (2 ^ k)) (fits_signed k (pos a))
    (λ t. let l = ltb→lt r (2 ^ k) t in mag_fits k (pos a) (omega arith))
    (λ t. let l = fits_mag k (pos a) t in lt→ltb r (2 ^ k) (omega arith))
raised_fits k {z = negsuc a} h d r e =
    let i = d.is in
    let q = pow_half k h in
    bool_eq (ltb r (2 ^ k)) (fits_signed k (negsuc a)) (λ t. mag_fits k (negsuc a) (omega arith)) (λ t. lt→ltb r (2 ^ k) (omega arith))

-- a lower number does not fit
low_unfit : (k : ℕ) {z : ℤ} {p n : ℕ} → Diff z p n → p + 2 ^ (k - 1) < n → fits_signed k z ≡ false
low_unfit k {z = pos a} d l = let i = d.is in absurd (omega arith)
low_unfit k {z = negsuc a} d l = let i = d.is in fits_size k (negsuc a) ∙ le-ltb a (2 ^ (k - 1)) (omega arith)

-- a word of m bits: its signed number, raised, is below 2^k exactly when it fits k bits
pub raised_signed : (m k x : ℕ) → 0 < k → k < m → x < 2 ^ m → ltb ((x + 2 ^ (k - 1)) % 2 ^ m) (2 ^ k) ≡ fits_signed k (signed m x)
raised_signed m k x h l u =
    go (ltb x (2 ^ (m - 1))) (ltb→lt _ _) (nltb→le _ _) (ltb (x + 2 ^ (k - 1)) (2 ^ m)) (ltb→lt _ _) (nltb→le _ _)
  where
    go :
        (c : Bool) → (T c → x < 2 ^ (m - 1)) → (T (not c) → 2 ^ (m - 1) ≤ x)
        → (d : Bool) → (T d → x + 2 ^ (k - 1) < 2 ^ m) → (T (not d) → 2 ^ m ≤ x + 2 ^ (k - 1))
        → ltb ((x + 2 ^ (k - 1)) % 2 ^ m) (2 ^ k) ≡ fits_signed k (signed m x)
    go true f g d p q =
        let low = f tt in
        let e = pow_half m (omega arith) in
        let n : 2 ^ (k - 1) ≤ 2 ^ (m - 1) = pow_mono (omega arith) in
        let r : (x + 2 ^ (k - 1)) % 2 ^ m ≡ x + 2 ^ (k - 1) = mod-eq_of_lt (omega arith) in
        rw (r, signed_low m x low) (raised_fits k h (diff_pos x) (x + 2 ^ (k - 1)) (omega arith))
    go false f g true p q =
        let high = g tt in
        let i = p tt in
        let n : 2 ^ k ≤ 2 ^ (m - 1) = pow_mono (omega arith) in
        let d : Diff (negsuc (2 ^ m - suc x)) x (2 ^ m) = record { is = omega arith } in
        rw (mod-eq_of_lt i, signed_high m x high) (le-ltb (x + 2 ^ (k - 1)) (2 ^ k) (omega arith) ∙ sym (low_unfit k d i))
    go false f g false p q =
        let high = g tt in
        let i = q tt in
        let n : 2 ^ (k - 1) ≤ 2 ^ m = pow_mono (omega arith) in
        let r : ℕ = x + 2 ^ (k - 1) - 2 ^ m in
        let j : x + 2 ^ (k - 1) ≡ r + 2 ^ m = omega arith in
        let d : Diff (negsuc (2 ^ m - suc x)) x (2 ^ m) = record { is = omega arith } in
        let v : (x + 2 ^ (k - 1)) % 2 ^ m ≡ r = ap (λ y. y % 2 ^ m) j ∙ add-mod_right r (2 ^ m) ∙ mod-eq_of_lt (omega arith) in
        rw (v, signed_high m x high) (raised_fits k h d r (sym j))

-- x - b, raised, is below 2^k modulo 2^m exactly when it fits k bits, where b is at most 2^m - 2^k
pub raised_sub :
    (m k x b r : ℕ) → 0 < k → b + 2 ^ k ≤ 2 ^ m → r < 2 ^ m → (r + b) % 2 ^ m ≡ x + 2 ^ (k - 1) → ltb r (2 ^ k) ≡ fits_signed k (sub_ℕ x b)
raised_sub m k x b r h l u e = go (ltb (r + b) (2 ^ m)) (ltb→lt _ _) (nltb→le _ _)
  where
    go : (c : Bool) → (T c → r + b < 2 ^ m) → (T (not c) → 2 ^ m ≤ r + b) → ltb r (2 ^ k) ≡ fits_signed k (sub_ℕ x b)
    go true f g = raised_fits k h (diff_sub x b) r (sym (mod-eq_of_lt (f tt)) ∙ e)
    go false f g =
        let i = g tt in
        let q = pow_pos k in
        let s : ℕ = r + b - 2 ^ m in
        let j : r + b ≡ s + 2 ^ m = omega arith in
        let v : (r + b) % 2 ^ m ≡ s = ap (λ y. y % 2 ^ m) j ∙ add-mod_right s (2 ^ m) ∙ mod-eq_of_lt (omega arith) in
        le-ltb r (2 ^ k) (omega arith) ∙ sym (low_unfit k (diff_sub x b) (omega arith))
