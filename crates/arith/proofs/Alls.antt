-- Laws of `all`.
-- Assumes nothing.
use Rattle.std.proofs.Common.{ℕ, zero, suc, ◌+◌, ◌^◌, ◌<◌, arith, add-one, lt-suc_self, not-suc-le-zero, ◌≡◌, refl, sym, subst, ap₂, ◌∙◌, ⊎_elim, Bool, false, ◌&&◌, T, ltb, lt→ltb, ltb→lt, pow_pos, lt-ltb}
use Rattle.std.proofs.Math.Nat.{le_step, le-suc_iff, suc_inj}
use Rattle.std.proofs.Math.Facts.{and_yes, yes_and}
use lib.Bits.{bit_or, or_lt, or_add_and, and_le_l, and_le_r}
use Rattle.arith.specs.All.{all}
use Rattle.arith.proofs.Bools.{bool_eq}

pub all-suc : (n : ℕ) (f : ℕ → Bool) → all (suc n) f ≡ (all n f && f n)
unfolding all
all-suc n f = refl

pub all_at : (n : ℕ) (f : ℕ → Bool) → T (all n f) → (k : ℕ) → k < n → T (f k)
unfolding all
all_at zero f t k h = absurd (not-suc-le-zero h)
all_at (suc n) f t k h =
    let b = and_yes (all n f) (f n) t in
    ⊎_elim (λ (p : k < n). all_at n f b.0 k p) (λ (e : suc k ≡ suc n). subst (λ j. T (f j)) (sym (suc_inj e)) b.1) (le-suc_iff.0 h)

pub all_fails : (n : ℕ) (f : ℕ → Bool) (k : ℕ) → k < n → f k ≡ false → all n f ≡ false
all_fails n f k h e = bool_eq (all n f) false (λ t. subst T e (all_at n f t k h)) (λ t. absurd t)

pub all_of : (n : ℕ) (f : ℕ → Bool) → ((k : ℕ) → k < n → T (f k)) → T (all n f)
unfolding all
all_of zero f h = tt
all_of (suc n) f h = yes_and (all n f) (f n) (all_of n f (λ k p. h k (le_step p))) (h n (lt-suc_self n))

pub all_cong : (n : ℕ) {f g : ℕ → Bool} → ((k : ℕ) → k < n → f k ≡ g k) → all n f ≡ all n g
unfolding all
all_cong zero h = refl
all_cong (suc n) h = ap₂ ◌&&◌ (all_cong n (λ k p. h k (le_step p))) (h n (lt-suc_self n))

-- what holds of each index below k, and of k, holds of each below k + 1
pub up_to {ℓ} : {P : ℕ → Type ℓ} (k : ℕ) → ((j : ℕ) → j < k → P j) → P k → (j : ℕ) → j < k + 1 → P j
up_to {P = P} k h p j l =
    let m : j < suc k = omega arith in
    ⊎_elim (h j) (λ (e : suc j ≡ suc k). subst P (sym (suc_inj e)) p) (le-suc_iff.0 m)

-- ---- the OR of numbers: it is below 2^b exactly when each is

pub or_below : (b x y : ℕ) → ltb (bit_or x y) (2 ^ b) ≡ (ltb x (2 ^ b) && ltb y (2 ^ b))
or_below b x y =
    let e = or_add_and x y in
    let l = and_le_l x y in
    let r = and_le_r x y in
    bool_eq (ltb (bit_or x y) (2 ^ b)) (ltb x (2 ^ b) && ltb y (2 ^ b))
    (λ t.
    let h = ltb→lt (bit_or x y) (2 ^ b) t in
    yes_and (ltb x (2 ^ b)) (ltb y (2 ^ b)) (lt→ltb x (2 ^ b) (omega arith)) (lt→ltb y (2 ^ b) (omega arith)))
    (λ t.
    let h = and_yes (ltb x (2 ^ b)) (ltb y (2 ^ b)) t in
    lt→ltb (bit_or x y) (2 ^ b) (or_lt b x y (ltb→lt x (2 ^ b) h.0) (ltb→lt y (2 ^ b) h.1)))

-- the OR of none
pub or_none : (b : ℕ) (f : ℕ → Bool) → ltb 0 (2 ^ b) ≡ all 0 f
unfolding all
or_none b f = lt-ltb 0 (2 ^ b) (pow_pos b)

-- one number more
pub or_next : (b x y k : ℕ) (f : ℕ → Bool) → ltb x (2 ^ b) ≡ all k f → ltb y (2 ^ b) ≡ f k → ltb (bit_or x y) (2 ^ b) ≡ all (k + 1) f
or_next b x y k f h e = or_below b x y ∙ ap₂ ◌&&◌ h e ∙ rw (add-one k) (sym (all-suc k f))
