-- Windows along a line that begins with 32 zeros: carried by what enters and leaves, and as differences of running sums.
-- Assumes nothing.
use Rattle.std.proofs.Common.{ℕ, ◌+◌, ◌*◌, ◌/◌, ◌%◌, ◌≤◌, ◌<◌, mod-eq_of_lt, arith, ◌≡◌, ap, ◌∙◌}
use Rattle.std.proofs.Math.Nat.{div-add-mod}
use Rattle.arith.specs.Sum.{sum}
use Rattle.arith.proofs.Sums.{sum_cong, sum-add, sum_scale, sum_split, sum_swap, sum_zero}
use Rattle.arith.proofs.Residues.{same_rest, rest_sum}

-- a line f, and a window of n places of it: s places further the first is trail + s
module _ (f : ℕ → ℕ) (dark : (i : ℕ) → i < 32 → f i ≡ 0) (trail n : ℕ) (within : trail + n ≤ 31) where
  abbrev win : (s : ℕ) → ℕ
  win s = sum n (λ j. f (trail + s + j))

  -- the sum up to its end is the sum before it and the window
  pub ahead : (s : ℕ) → sum (trail + n + s) f ≡ sum (trail + s) f + win s
  ahead s =
      let e : trail + n + s ≡ trail + s + n = omega arith in
      ap (λ i. sum i f) e ∙ sum_split (trail + s) n f

  -- what entered is what left and the window
  pub entered : (s : ℕ) → sum s (λ h. f (trail + n + h)) ≡ sum s (λ h. f (trail + h)) + win s
  entered s =
      let a = ahead s in
      let p = sum_split (trail + n) s f in
      let q = sum_split trail s f in
      let x = sum_zero (trail + n) {f = f} (λ i h. dark i (omega arith)) in
      let y = sum_zero trail {f = f} (λ i h. dark i (omega arith)) in
      omega arith

  -- and modulo 2^32
  pub changes : (s : ℕ) → sum s (λ h. f (trail + n + h) + 4294967295 * f (trail + h)) ≡ win s + 4294967296 * sum s (λ h. f (trail + h))
  changes s =
      let a = sum-add s (λ h. f (trail + n + h)) (λ h. 4294967295 * f (trail + h)) in
      let b = sum_scale s 4294967295 (λ h. f (trail + h)) in
      let e = entered s in
      omega arith

-- the difference of two sums modulo 2^32
pub less_is : (p g w : ℕ) → p ≡ g + w → w < 4294967296 → (p % 4294967296 + 4294967295 * (g % 4294967296)) % 4294967296 ≡ w
less_is p g w e h =
    let a = div-add-mod p 4294967296 in
    let b = div-add-mod g 4294967296 in
    same_rest _ w 4294967296 (p / 4294967296 + 4294967295 * (g / 4294967296)) g (omega arith) ∙ mod-eq_of_lt h

-- the running sums of weighed changes are the weighed windows, modulo 2^32
module _
    (count : ℕ) (m : ℕ → ℕ) (f : ℕ → ℕ → ℕ) (trail n : ℕ → ℕ) (dark : (k : ℕ) → k < count → (i : ℕ) → i < 32 → f k i ≡ 0)
    (within : (k : ℕ) → k < count → trail k + n k ≤ 31) where
  abbrev change : (k h : ℕ) → ℕ
  change k h = f k (trail k + n k + h) + 4294967295 * f k (trail k + h)

  pub summed : (s : ℕ) (acc : ℕ → ℕ) → ((h : ℕ) → h < s → acc h ≡ sum count (λ k. m k * change k h) % 4294967296)
      → sum s acc % 4294967296 ≡ sum count (λ k. m k * sum (n k) (λ j. f k (trail k + s + j))) % 4294967296
  summed s acc is =
      let each : (k : ℕ) → k < count
      → sum s (λ h. m k * change k h) ≡ m k * sum (n k) (λ j. f k (trail k + s + j)) + 4294967296 * (m k * sum s (λ h. f k (trail k + h))) =
      λ k h. sum_scale s (m k) (change k) ∙ ap (λ x. m k * x) (changes (f k) (dark k h) (trail k) (n k) (within k h) s) ∙ omega arith in
      let a = sum-add count (λ k. m k * sum (n k) (λ j. f k (trail k + s + j))) (λ k. 4294967296 * (m k * sum s (λ h. f k (trail k + h)))) in
      let b = sum_scale count 4294967296 (λ k. m k * sum s (λ h. f k (trail k + h))) in
      let whole : sum s (λ h. sum count (λ k. m k * change k h)) ≡ sum count (λ k. sum s (λ h. m k * change k h)) =
      sum_swap s count (λ h k. m k * change k h) in
      let c = whole ∙ sum_cong count each in
      ap (λ x. x % 4294967296) (sum_cong s is) ∙ rest_sum 4294967296 s (λ h. sum count (λ k. m k * change k h))
      ∙ same_rest _ _ 4294967296 0 (sum count (λ k. m k * sum s (λ h. f k (trail k + h)))) (omega arith)
