-- Laws of bounded sums.
-- Assumes nothing.
use Rattle.std.proofs.Common.{ℕ, zero, suc, ◌+◌, ◌-◌, ◌*◌, ◌≤◌, ◌<◌, zero-le, lt-suc_self, not-suc-le-zero, add-suc, add-zero, arith, ◌≡◌, refl, sym, ap, ◌∙◌, ⊎_elim, ◌≢◌}
use Rattle.std.proofs.Math.Nat.{le_step, le-suc_iff, suc_inj}
use Rattle.arith.specs.Sum.{sum}

-- what holds of each index below n + 1 holds of each below n
below {ℓ} : {P : ℕ → Type ℓ} {n : ℕ} → ((k : ℕ) → k < suc n → P k) → (k : ℕ) → k < n → P k
below h k p = h k (le_step p)

-- one more term
pub sum-suc : (n : ℕ) (f : ℕ → ℕ) → sum (suc n) f ≡ sum n f + f n
unfolding sum
sum-suc n f = refl

-- functions that agree below n have the same sum
pub sum_cong : (n : ℕ) {f g : ℕ → ℕ} → ((k : ℕ) → k < n → f k ≡ g k) → sum n f ≡ sum n g
unfolding sum
sum_cong zero h = refl
sum_cong (suc n) {f} {g} h = let p = sum_cong n (below h) in let q = h n (lt-suc_self n) in omega arith

pub sum_mono : (n : ℕ) {f g : ℕ → ℕ} → ((k : ℕ) → k < n → f k ≤ g k) → sum n f ≤ sum n g
unfolding sum
sum_mono zero h = zero-le
sum_mono (suc n) {f} {g} h = let p = sum_mono n (below h) in let q = h n (lt-suc_self n) in omega arith

pub sum_const : (n a : ℕ) → sum n (λ k. a) ≡ n * a
unfolding sum
sum_const zero a = omega arith
sum_const (suc n) a = let p = sum_const n a in omega arith

-- every term at most a
pub sum_bound : (n a : ℕ) {f : ℕ → ℕ} → ((k : ℕ) → k < n → f k ≤ a) → sum n f ≤ n * a
sum_bound n a h = let p = sum_mono n h in let q = sum_const n a in omega arith

pub sum-add : (n : ℕ) (f g : ℕ → ℕ) → sum n (λ k. f k + g k) ≡ sum n f + sum n g
unfolding sum
sum-add zero f g = refl
sum-add (suc n) f g = let p = sum-add n f g in omega arith

pub sum_scale : (n a : ℕ) (f : ℕ → ℕ) → sum n (λ k. a * f k) ≡ a * sum n f
unfolding sum
sum_scale zero a f = omega arith
sum_scale (suc n) a f = let p = sum_scale n a f in omega arith

-- a sum is 0 exactly when every term is
pub sum_zero : (n : ℕ) {f : ℕ → ℕ} → ((k : ℕ) → k < n → f k ≡ 0) → sum n f ≡ 0
unfolding sum
sum_zero zero h = refl
sum_zero (suc n) {f} h = let p = sum_zero n (below h) in let q = h n (lt-suc_self n) in omega arith

pub term_le_sum : (n : ℕ) (f : ℕ → ℕ) (k : ℕ) → k < n → f k ≤ sum n f
unfolding sum
term_le_sum zero f k h = absurd (not-suc-le-zero h)
term_le_sum (suc n) f k h =
    ⊎_elim (λ (p : k < n). let q = term_le_sum n f k p in omega arith) (λ (e : suc k ≡ suc n). let q = ap f (suc_inj e) in omega arith)
    (le-suc_iff.0 h)

pub term_zero : (n : ℕ) (f : ℕ → ℕ) → sum n f ≡ 0 → (k : ℕ) → k < n → f k ≡ 0
term_zero n f e k h = let p = term_le_sum n f k h in omega arith

-- the first m terms, then the n after them
pub sum_split : (m n : ℕ) (f : ℕ → ℕ) → sum (m + n) f ≡ sum m f + sum n (λ k. f (m + k))
unfolding sum
sum_split m zero f = rw add-zero (omega arith)
sum_split m (suc n) f = rw add-suc (let p = sum_split m n f in omega arith)

-- the first term, then the others
pub sum_first : (n : ℕ) (f : ℕ → ℕ) → sum (suc n) f ≡ f 0 + sum n (λ k. f (suc k))
unfolding sum
sum_first zero f = omega arith
sum_first (suc n) f = let p = sum_first n f in omega arith

-- the first m terms of n add up to no more than all
pub sum_prefix : (m n : ℕ) (f : ℕ → ℕ) → m ≤ n → sum m f ≤ sum n f
sum_prefix m n f h =
    let e : m + (n - m) ≡ n = omega arith in
    let s = sum_split m (n - m) f in
    let a = ap (λ k. sum k f) e in
    omega arith

-- a sum of sums, the other way round
pub sum_swap : (m n : ℕ) (f : ℕ → ℕ → ℕ) → sum m (λ i. sum n (f i)) ≡ sum n (λ j. sum m (λ i. f i j))
unfolding sum
sum_swap zero n f = sym (sum_zero n (λ j h. refl))
sum_swap (suc m) n f =
    let p = sum_swap m n f in
    let q = sum-add n (λ j. sum m (λ i. f i j)) (f m) in
    omega arith

-- only term k counts, and the others are 0
pub sum_one : (n : ℕ) (f : ℕ → ℕ) (k : ℕ) → k < n → ((j : ℕ) → j < n → j ≢ k → f j ≡ 0) → sum n f ≡ f k
sum_one n f k h none =
    let e : n ≡ k + suc (n - suc k) = omega arith in
    let s = sum_split k (suc (n - suc k)) f in
    let t = sum_first (n - suc k) (λ j. f (k + j)) in
    let a : sum k f ≡ 0 = sum_zero k (λ j l. none j (omega arith) (λ i. absurd (omega arith))) in
    let b : sum (n - suc k) (λ j. f (k + suc j)) ≡ 0 = sum_zero (n - suc k) (λ j l. none (k + suc j) (omega arith) (λ i. absurd (omega arith))) in
    let c : f (k + 0) ≡ f k = ap f (omega arith) in
    ap (λ m. sum m f) e ∙ s ∙ omega arith
