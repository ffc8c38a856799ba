-- Laws of mended rows.
-- Assumes nothing.
use Rattle.std.proofs.Common.{ℕ, zero, suc, ◌+◌, ◌-◌, ◌≤◌, ◌<◌, zero-le, min, le_refl, eq-or-lt_of_le, not-suc-le-zero, arith, ◌≡◌, refl, sym, ap, ap₂, ◌∙◌, subst, ⊎_elim, Bool, true, false, not, cond, ◌||◌, List, ◌++◌, T, leb, eqb, leb→le, length, get_or, take, drop, drop_of_length-le, take_all, take_at, le-leb, eq-eqb, ne_eqb}
use Rattle.std.proofs.Math.Nat.{le_step}
use Rattle.std.proofs.Math.Dec.{nleb→lt}
use Rattle.std.proofs.lemmas.List.{length-take-le, get_or-take}
use Rattle.arith.specs.Tab.{tab}
use Rattle.arith.proofs.Tabs.{length-tab, get_or-tab, tab_cong, tab-get_or, tab-append}
use Rattle.rule.specs.Mended.{dead, mended_at, mended, Nearest}

-- what a dead sample at k takes: sample k - 1, mended, or 0 at the start of the row
unfoldable pub before : (f : ℕ → ℕ) → (k : ℕ) → ℕ
before f zero = 0
before f (suc k) = mended_at f k

pub before_next : (f : ℕ → ℕ) (k : ℕ) → before f (suc k) ≡ mended_at f k
unfolding before
before_next f k = refl

pub before_none : (f : ℕ → ℕ) → before f 0 ≡ 0
unfolding before
before_none f = refl

pub mended_step : (f : ℕ → ℕ) (k : ℕ) → mended_at f k ≡ cond (eqb (f k) dead) (before f k) (f k)
unfolding mended_at before
mended_step f zero = refl
mended_step f (suc k) = refl

-- ---- the nearest live sample to the left

-- a live sample is itself
pub mended_live : (f : ℕ → ℕ) (k : ℕ) → ¬ (f k ≡ dead) → mended_at f k ≡ f k
mended_live f k n = mended_step f k ∙ rw (ne_eqb (f k) dead n) refl

pub mended_zero : (f : ℕ → ℕ) (k : ℕ) → f k ≡ 0 → mended_at f k ≡ 0
mended_zero f k e = mended_live f k (λ d. let z : ◌≡◌ {A = ℕ} 0 dead = sym e ∙ d in omega arith) ∙ e

-- a dead one takes what is before it
pub mended_dead : (f : ℕ → ℕ) (k : ℕ) → f k ≡ dead → mended_at f k ≡ before f k
mended_dead f k e = mended_step f k ∙ rw (eq-eqb (f k) dead e) refl

-- so it is what the one before it is
pub mended_back : (f : ℕ → ℕ) (k : ℕ) → 0 < k → f k ≡ dead → mended_at f k ≡ mended_at f (k - 1)
unfolding before
mended_back f zero h e = absurd (not-suc-le-zero h)
mended_back f (suc k) h e = mended_dead f (suc k) e ∙ ap (mended_at f) (omega arith)

-- at the start of the row it is 0
pub mended_first : (f : ℕ → ℕ) → f 0 ≡ dead → mended_at f 0 ≡ 0
unfolding before
mended_first f e = mended_dead f 0 e

mended_left :
    (f : ℕ → ℕ) (k j : ℕ) → j ≤ k → ¬ (f j ≡ dead) → ((i : ℕ) → j < i → i ≤ k → f i ≡ dead) → mended_at f k ≡ f j
unfolding before
mended_left f zero j h live gone =
    let e : j ≡ 0 = omega arith in
    subst (λ i. mended_at f 0 ≡ f i) (sym e) (mended_live f 0 (subst (λ i. ¬ (f i ≡ dead)) e live))
mended_left f (suc k) j h live gone =
    ⊎_elim (λ (e : j ≡ suc k). subst (λ i. mended_at f (suc k) ≡ f i) (sym e) (mended_live f (suc k) (subst (λ i. ¬ (f i ≡ dead)) e live)))
    (λ (l : j < suc k).
    mended_dead f (suc k) (gone (suc k) l (le_refl (suc k)))
    ∙ mended_left f k j (omega arith) live (λ i p q. gone i p (le_step q)))
    (eq-or-lt_of_le h)

mended_none : (f : ℕ → ℕ) (k : ℕ) → ((i : ℕ) → i ≤ k → f i ≡ dead) → mended_at f k ≡ 0
unfolding before
mended_none f zero gone = mended_first f (gone 0 (le_refl 0))
mended_none f (suc k) gone = mended_dead f (suc k) (gone (suc k) (le_refl (suc k))) ∙ mended_none f k (λ i p. gone i (le_step p))

pub nearest : (f : ℕ → ℕ) (k : ℕ) → Nearest f k
nearest f k = record { live = mended_live f k; left = mended_left f k; none = mended_none f k }

-- ---- rows that agree, and the limit of the samples

pub mended_cong : (f g : ℕ → ℕ) (k : ℕ) → ((j : ℕ) → j ≤ k → f j ≡ g j) → mended_at f k ≡ mended_at g k
unfolding mended_at
mended_cong f g zero h = rw (h 0 (le_refl 0)) refl
mended_cong f g (suc k) h = rw (h (suc k) (le_refl (suc k)), mended_cong f g k (λ j p. h j (le_step p))) refl

-- question 18 accepts a sample that is at most the limit
pub small_good : {x m : ℕ} → x ≤ m → T (leb x m || eqb x dead)
small_good {x} {m} h = rw (le-leb x m h) tt

step_most : (f : ℕ → ℕ) (m k : ℕ) → T (leb (f k) m || eqb (f k) dead) → before f k ≤ m → cond (eqb (f k) dead) (before f k) (f k) ≤ m
step_most f m k = go (eqb (f k) dead) (leb (f k) m) (leb→le (f k) m)
  where
    go : (e l : Bool) → (T l → f k ≤ m) → T (l || e) → before f k ≤ m → cond e (before f k) (f k) ≤ m
    go true l le t b = b
    go false true le t b = le tt
    go false false le t b = absurd t

-- samples that question 18 accepts, mended, are at most the limit
pub mended_most : (f : ℕ → ℕ) (m k : ℕ) → ((j : ℕ) → j ≤ k → T (leb (f j) m || eqb (f j) dead)) → mended_at f k ≤ m
unfolding before
mended_most f m zero h = rw (mended_step f 0) (step_most f m 0 (h 0 (le_refl 0)) zero-le)
mended_most f m (suc k) h =
    rw (mended_step f (suc k)) (step_most f m (suc k) (h (suc k) (le_refl (suc k))) (mended_most f m k (λ j p. h j (le_step p))))

-- ---- whole rows

pub length-mended : (xs : List ℕ) → length (mended xs) ≡ length xs
unfolding mended
length-mended xs = length-tab (length xs) (mended_at (λ k. get_or xs k 0))

pub get_or-mended : (xs : List ℕ) (k : ℕ) → k < length xs → get_or (mended xs) k 0 ≡ mended_at (λ j. get_or xs j 0) k
unfolding mended
get_or-mended xs k h = get_or-tab (length xs) (mended_at (λ j. get_or xs j 0)) k 0 h

-- a row without dead elements is itself
pub mended_clean : (xs : List ℕ) → ((k : ℕ) → k < length xs → ¬ (get_or xs k 0 ≡ dead)) → mended xs ≡ xs
unfolding mended
mended_clean xs h = tab_cong (length xs) (λ k p. mended_live (λ j. get_or xs j 0) k (h k p)) ∙ tab-get_or xs (length xs) 0 refl

-- the first places of a line that takes as much of the mended row as both have
pub mended_part :
    (line row : List ℕ) (n : ℕ) → n ≡ min (length line) (length row)
    → tab n (mended_at (λ k. get_or row k 0)) ++ drop n line ≡ take (length line) (mended row) ++ drop (length row) line
unfolding mended
mended_part line row n e = go (leb (length row) (length line)) (leb→le (length row) (length line)) (nleb→lt (length row) (length line))
  where
    go : (b : Bool) → (T b → length row ≤ length line) → (T (not b) → length line < length row)
        → tab n (mended_at (λ k. get_or row k 0)) ++ drop n line ≡ take (length line) (tab (length row) (mended_at (λ k. get_or row k 0))) ++ drop (length row) line
    go true y x =
        let h = y tt in
        let m : n ≡ length row = omega arith in
        let long = length-tab (length row) (mended_at (λ k. get_or row k 0)) in
        rw (take_all (length line) (tab (length row) (mended_at (λ k. get_or row k 0))) (omega arith), m) refl
    go false y x =
        let h = x tt in
        let m : n ≡ length line = omega arith in
        let more : length row ≡ length line + (length row - length line) = omega arith in
        ap₂ ◌++◌
        (ap (λ i. tab i (mended_at (λ k. get_or row k 0))) m
        ∙ sym (ap (λ i. take (length line) (tab i (mended_at (λ k. get_or row k 0)))) more
        ∙ ap (take (length line)) (tab-append (length line) (length row - length line) (mended_at (λ k. get_or row k 0)))
        ∙ take_at (tab (length line) (mended_at (λ k. get_or row k 0))) _ (length line) (length-tab (length line) (mended_at (λ k. get_or row k 0)))))
        (drop_of_length-le line {i = n} (omega arith) ∙ sym (drop_of_length-le line {i = length row} (omega arith)))

-- as many places of a row as the line has, mended by themselves
pub mended_places :
    (line row : List ℕ) (n : ℕ) → n ≡ min (length line) (length row)
    → mended (take n row) ++ drop n line ≡ take (length line) (mended row) ++ drop (length row) line
unfolding mended
mended_places line row n e =
    let l : length (take n row) ≡ n = length-take-le n row (omega arith) in
    ap (λ xs. xs ++ drop n line)
    (ap (λ m. tab m (mended_at (λ k. get_or (take n row) k 0))) l
    ∙ tab_cong n (λ k h. mended_cong (λ j. get_or (take n row) j 0) (λ j. get_or row j 0) k (λ j i. get_or-take n row j 0 (omega arith))))
    ∙ mended_part line row n e

-- the first places of a line that took a mended row of their number
pub mended_line :
    (line zeros row : List ℕ) (l : ℕ) → line ≡ take (length zeros) (mended row) ++ drop (length row) zeros → length (mended row) ≡ l → l ≤ length zeros
    → take (l - 0) line ≡ mended row
mended_line line zeros row l e long h =
    rw (e, take_all (length zeros) (mended row) (omega arith)) (take_at (mended row) (drop (length row) zeros) (l - 0) (omega arith))
