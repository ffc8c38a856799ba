-- Laws of remainders: sums modulo a number, and integers modulo 2^32.
-- Assumes nothing.
use Rattle.std.proofs.Common.{ℕ, zero, suc, ◌+◌, ◌-◌, ◌*◌, ◌/◌, ◌%◌, mod-eq_of_lt, arith, ◌≡◌, refl, sym, ap, ◌∙◌, T, ℤ, pos, negsuc}
use Rattle.std.proofs.Math.Nat.{add-mul-mod_self_left, mod-add-mod, add-mod-mod, div-add-mod}
use Rattle.arith.specs.Sum.{sum}
use Rattle.arith.specs.Diff.{Diff}
use Rattle.arith.specs.Twos.{signed, fits_signed}
use Rattle.arith.proofs.Sums.{sum-add, sum_scale, sum_cong}
use Rattle.arith.proofs.Words.{fits_mag, signed_low, signed_high}

-- numbers that differ by multiples of n have one remainder
pub same_rest : (a b n x y : ℕ) → a + n * x ≡ b + n * y → a % n ≡ b % n
same_rest a b n x y e = sym (add-mul-mod_self_left a n x) ∙ ap (λ c. c % n) e ∙ add-mul-mod_self_left b n y

-- a sum of remainders has the sum's
pub rest_sum : (n m : ℕ) (f : ℕ → ℕ) → sum m (λ k. f k % n) % n ≡ sum m f % n
unfolding sum
rest_sum n zero f = refl
rest_sum n (suc m) f =
    add-mod-mod (sum m (λ k. f k % n)) (f m) n ∙ sym (mod-add-mod (sum m (λ k. f k % n)) n (f m))
    ∙ ap (λ a. (a + f m) % n) (rest_sum n m f) ∙ mod-add-mod (sum m f) n (f m)

-- and so has a sum of products with remainders
pub rest_products : (n m : ℕ) (a x : ℕ → ℕ) → sum m (λ k. a k % n * x k) % n ≡ sum m (λ k. a k * x k) % n
rest_products n m a x =
    let e : sum m (λ k. a k * x k) ≡ sum m (λ k. a k % n * x k + n * (a k / n * x k)) =
    sum_cong m (λ k h. let d = ap (λ y. y * x k) (div-add-mod (a k) n) in omega arith) in
    let s = sum-add m (λ k. a k % n * x k) (λ k. n * (a k / n * x k)) in
    let t = sum_scale m n (λ k. a k / n * x k) in
    same_rest (sum m (λ k. a k % n * x k)) (sum m (λ k. a k * x k)) n (sum m (λ k. a k / n * x k)) 0 (omega arith)

-- p - n modulo 2^32, read as a signed number, is that integer where it has 32 bits
pub signed_rest : (z : ℤ) {p n : ℕ} → Diff z p n → T (fits_signed 32 z) → signed 32 ((p + 4294967295 * n) % 4294967296) ≡ z
signed_rest (pos a) {p} {n} d t =
    let m = fits_mag 32 (pos a) t in
    let e = d.is in
    let r : (p + 4294967295 * n) % 4294967296 ≡ a = same_rest _ a 4294967296 0 n (omega arith) ∙ mod-eq_of_lt (omega arith) in
    ap (signed 32) r ∙ signed_low 32 a (omega arith)
signed_rest (negsuc a) {p} {n} d t =
    let m = fits_mag 32 (negsuc a) t in
    let e = d.is in
    let x : ℕ = 4294967296 - suc a in
    let r : (p + 4294967295 * n) % 4294967296 ≡ x = same_rest _ x 4294967296 0 (p + a) (omega arith) ∙ mod-eq_of_lt (omega arith) in
    ap (signed 32) r ∙ signed_high 32 x (omega arith) ∙ ap negsuc (omega arith)
