-- Laws of `largest`.
-- Assumes nothing.
use Rattle.std.proofs.Common.{ℕ, zero, suc, max, ◌≤◌, ◌<◌, zero-le, lt-suc_self, not-suc-le-zero, arith, ◌≡◌, refl, sym, ap, ap₂, ⊎_elim}
use Rattle.std.proofs.Math.Nat.{le_step, le-suc_iff, suc_inj}
use Rattle.arith.specs.Largest.{largest}

pub largest-suc : (n : ℕ) (f : ℕ → ℕ) → largest (suc n) f ≡ max (largest n f) (f n)
unfolding largest
largest-suc n f = refl

-- each is at most the largest
pub le-largest : (n : ℕ) (f : ℕ → ℕ) (k : ℕ) → k < n → f k ≤ largest n f
unfolding largest
le-largest zero f k h = absurd (not-suc-le-zero h)
le-largest (suc n) f k h =
    ⊎_elim (λ (p : k < n). let q = le-largest n f k p in omega arith) (λ (e : suc k ≡ suc n). let q = ap f (suc_inj e) in omega arith)
    (le-suc_iff.0 h)

-- the largest is within what bounds each
pub largest_bound : (n a : ℕ) {f : ℕ → ℕ} → ((k : ℕ) → k < n → f k ≤ a) → largest n f ≤ a
unfolding largest
largest_bound zero a h = zero-le
largest_bound (suc n) a {f} h =
    let p = largest_bound n a (λ k l. h k (le_step l)) in
    let q = h n (lt-suc_self n) in
    omega arith

-- terms from m on that are 0 count for nothing
pub largest_beyond : (m n : ℕ) (f : ℕ → ℕ) → ((k : ℕ) → m ≤ k → k < n → f k ≡ 0) → m ≤ n → largest n f ≡ largest m f
unfolding largest
largest_beyond zero zero f z h = refl
largest_beyond (suc m) zero f z h = absurd (not-suc-le-zero h)
largest_beyond m (suc n) f z h =
    ⊎_elim (λ (p : m ≤ n). let q = largest_beyond m n f (λ k a b. z k a (le_step b)) p in let r = z n p (lt-suc_self n) in omega arith)
    (λ (e : m ≡ suc n). ap (λ k. largest k f) (sym e))
    (le-suc_iff.0 h)

-- functions that agree below n have the same largest
pub largest_cong : (n : ℕ) {f g : ℕ → ℕ} → ((k : ℕ) → k < n → f k ≡ g k) → largest n f ≡ largest n g
unfolding largest
largest_cong zero h = refl
largest_cong (suc n) h = ap₂ max (largest_cong n (λ k l. h k (le_step l))) (h n (lt-suc_self n))
