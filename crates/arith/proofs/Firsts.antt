-- Laws of `first_not`.
-- Assumes nothing.
use Rattle.std.proofs.Common.{ℕ, zero, suc, ◌+◌, ◌-◌, ◌≤◌, ◌<◌, zero-le, not-suc-le-zero, arith, ◌≡◌, refl, sym, ap, ap₂, ◌∙◌, subst, Bool, true, false, not, cond, ◌⊎◌, ⊎_elim, T, ltb, ltb→lt, nltb→le}
use Rattle.arith.specs.All.{all}
use Rattle.arith.specs.First.{first_not}
use Rattle.arith.proofs.Alls.{all_fails, all_of}
use Rattle.arith.proofs.Bools.{true_of}

-- f fails at k and holds before it
pub first_at : (n : ℕ) (f : ℕ → Bool) (k : ℕ) → k < n → ((j : ℕ) → j < k → T (f j)) → f k ≡ false → first_not n f ≡ k
unfolding first_not
first_at zero f k h before e = absurd (not-suc-le-zero h)
first_at (suc n) f zero h before e = rw e refl
first_at (suc n) f (suc k) h before e =
    rw (true_of (f 0) (before 0 (omega arith)))
    (ap suc (first_at n (λ j. f (suc j)) k (omega arith) (λ j l. before (suc j) (omega arith)) e))

-- f holds throughout
pub first_none : (n : ℕ) (f : ℕ → Bool) → ((j : ℕ) → j < n → T (f j)) → first_not n f ≡ n
unfolding first_not
first_none zero f all = refl
first_none (suc n) f all =
    rw (true_of (f 0) (all 0 (omega arith))) (ap suc (first_none n (λ j. f (suc j)) (λ j l. all (suc j) (omega arith))))

-- f holds before the first place where it fails
pub first_before : (n : ℕ) (f : ℕ → Bool) (j : ℕ) → j < first_not n f → T (f j)
unfolding first_not
first_before zero f j h = absurd (not-suc-le-zero h)
first_before (suc n) f j h = go (first_before n (λ k. f (suc k))) (f 0) refl j h
  where
    go : ((j : ℕ) → j < first_not n (λ k. f (suc k)) → T (f (suc j))) → (b : Bool) → f 0 ≡ b → (j : ℕ) → j < cond b (suc (first_not n (λ k. f (suc k)))) 0 → T (f j)
    go before true e zero h = rw e tt
    go before true e (suc j) h = before j (omega arith)
    go before false e j h = absurd (not-suc-le-zero h)

-- and it fails there
pub first_fails : (n : ℕ) (f : ℕ → Bool) → first_not n f < n → f (first_not n f) ≡ false
unfolding first_not
first_fails zero f h = absurd (not-suc-le-zero h)
first_fails (suc n) f h = go (first_fails n (λ k. f (suc k))) (f 0) refl h
  where
    go : (first_not n (λ k. f (suc k)) < n → f (suc (first_not n (λ k. f (suc k)))) ≡ false) → (b : Bool) → f 0 ≡ b → cond b (suc (first_not n (λ k. f (suc k)))) 0 < suc n → f (cond b (suc (first_not n (λ k. f (suc k)))) 0) ≡ false
    go fails true e h = fails (omega arith)
    go fails false e h = e

-- tests that agree below n fail first at one place
pub first_cong : (n : ℕ) {f g : ℕ → Bool} → ((j : ℕ) → j < n → f j ≡ g j) → first_not n f ≡ first_not n g
unfolding first_not
first_cong zero h = refl
first_cong (suc n) {f} {g} h =
    ap₂ (λ b k. cond b (suc k) 0) (h 0 (omega arith)) (first_cong n {f = λ j. f (suc j)} {g = λ j. g (suc j)} (λ j l. h (suc j) (omega arith)))

pub first_most : (n : ℕ) (f : ℕ → Bool) → first_not n f ≤ n
unfolding first_not
first_most zero f = zero-le
first_most (suc n) f = go (f 0) (first_most n (λ k. f (suc k)))
  where
    go : (b : Bool) → first_not n (λ k. f (suc k)) ≤ n → cond b (suc (first_not n (λ k. f (suc k)))) 0 ≤ suc n
    go true h = omega arith
    go false h = zero-le

-- a last place where f fails changes nothing
pub first_last : (n : ℕ) (f : ℕ → Bool) → f n ≡ false → first_not (suc n) f ≡ first_not n f
unfolding first_not
first_last zero f e = rw e refl
first_last (suc n) f e = ap (λ k. cond (f 0) (suc k) 0) (first_last n (λ k. f (suc k)) e)

-- f holds below m, and is asked at n places from there on: it fails there, or these are the last
pub first_after : (m n : ℕ) (f : ℕ → Bool) (k : ℕ) → ((j : ℕ) → j < m → T (f j)) → k ≡ first_not n (λ i. f (m + i)) → (total : ℕ) → m + n ≤ total
    → (k < n) ⊎ (m + n ≡ total) → first_not total f ≡ m + k
first_after m n f k low e total room end = ⊎_elim fails (λ all. by (ltb k n) (ltb→lt k n) (nltb→le k n) all) end
  where
    held : (j : ℕ) → j < m + k → T (f j)
    held j l = at (ltb j m) (ltb→lt j m) (nltb→le j m)
      where
        at : (b : Bool) → (T b → j < m) → (T (not b) → m ≤ j) → T (f j)
        at true y z = low j (y tt)
        at false y z =
            let h = z tt in
            let i : m + (j - m) ≡ j = omega arith in
            subst (λ i. T (f i)) i (first_before n (λ i. f (m + i)) (j - m) (omega arith))

    fails : k < n → first_not total f ≡ m + k
    fails l = first_at total f (m + k) (omega arith) held (subst (λ i. f (m + i) ≡ false) (sym e) (first_fails n (λ i. f (m + i)) (omega arith)))

    by : (b : Bool) → (T b → k < n) → (T (not b) → n ≤ k) → m + n ≡ total → first_not total f ≡ m + k
    by true y z all = fails (y tt)
    by false y z all =
        let h = z tt in
        let u = first_none n (λ i. f (m + i)) (λ i l. first_before n (λ i. f (m + i)) i (omega arith)) in
        first_none total f (λ j l. held j (omega arith)) ∙ (let q : total ≡ m + k = omega arith in q)

-- f fails somewhere exactly when the first such place is below n
pub first_below : (n : ℕ) (f : ℕ → Bool) → first_not n f < n → all n f ≡ false
first_below n f h = all_fails n f (first_not n f) h (first_fails n f h)

pub first_beyond : (n : ℕ) (f : ℕ → Bool) → n ≤ first_not n f → T (all n f)
first_beyond n f h = all_of n f (λ k l. first_before n f k (omega arith))
