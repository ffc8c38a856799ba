-- Samples in a grid, of which some are held: how many pass a test, by their levels.
-- Assumes nothing.
use Prim.Native.Nat.{ℕ, zero, suc, ◌+◌, ◌-◌, ◌≤◌, ◌<◌, zero-le}
use native.Mathlib.Nat.{lt_irrefl, le_of_eq, le_of_lt, eq-or-lt_of_le}
use native.Mathlib.Decide.{ℕ_discrete}
use native.Mathlib.Omega.{arith}
use mathlib.Core.Logic.{⊎_elim}
use mathlib.Core.Path.{◌≡◌, refl, sym, ap, ap₂, ◌∙◌, subst}
use mathlib.Core.Bool.{Bool, true, false, not, cond, ◌&&◌}
use lib.Dec.{T, leb, ltb, eqb, ltb→lt, nltb→le, leb→le, le→leb, lt→ltb}
use lib.IntN.{pos, negsuc}
use borrow.Author.Tests.{lt-ltb, le-ltb, eq-eqb, ne_eqb}
use Rattle.arith.specs.Sum.{sum}
use Rattle.arith.specs.First.{first_not}
use Rattle.arith.specs.Largest.{largest}
use Rattle.arith.proofs.Bools.{bool_eq, true_of}
use Rattle.arith.proofs.Firsts.{first_cong}
use Rattle.arith.proofs.Maxima.{le-largest, largest_bound}
use Rattle.arith.proofs.Sums.{sum_cong, sum_zero, sum_swap, term_zero}
use Rattle.levels.specs.Levels.{up_to, below, highest, ranked}
use Rattle.levels.proofs.Ranks.{highest_top, highest_below}

-- of the levels below n, a sample is one exactly where it is below n
one_of : (n x : ℕ) → sum n (λ u. cond (eqb x u) 1 0) ≡ cond (ltb x n) 1 0
unfolding sum
one_of zero x = rw (le-ltb x 0 zero-le) refl
one_of (suc n) x = go (one_of n x) (ltb x n) (ltb→lt x n) (nltb→le x n)
  where
    low : sum n (λ u. cond (eqb x u) 1 0) ≡ cond (ltb x n) 1 0 → x < n → sum n (λ u. cond (eqb x u) 1 0) + cond (eqb x n) 1 0 ≡ cond (ltb x (suc n)) 1 0
    low i l = rw (i, lt-ltb x n l, ne_eqb x n (λ e. lt_irrefl n (subst (λ k. k < n) e l)), lt-ltb x (suc n) (omega arith)) refl

    same : sum n (λ u. cond (eqb x u) 1 0) ≡ cond (ltb x n) 1 0 → n ≡ x → sum n (λ u. cond (eqb x u) 1 0) + cond (eqb x n) 1 0 ≡ cond (ltb x (suc n)) 1 0
    same i e = rw (i, le-ltb x n (le_of_eq e), eq-eqb x n (sym e), lt-ltb x (suc n) (omega arith)) refl

    high : sum n (λ u. cond (eqb x u) 1 0) ≡ cond (ltb x n) 1 0 → n < x → sum n (λ u. cond (eqb x u) 1 0) + cond (eqb x n) 1 0 ≡ cond (ltb x (suc n)) 1 0
    high i l = rw (i, le-ltb x n (le_of_lt l), ne_eqb x n (λ e. lt_irrefl n (subst (λ k. n < k) e l)), le-ltb x (suc n) l) refl

    go : sum n (λ u. cond (eqb x u) 1 0) ≡ cond (ltb x n) 1 0 → (b : Bool) → (T b → x < n) → (T (not b) → n ≤ x)
        → sum n (λ u. cond (eqb x u) 1 0) + cond (eqb x n) 1 0 ≡ cond (ltb x (suc n)) 1 0
    go i true f g = low i (f tt)
    go i false f g = ⊎_elim (same i) (high i) (eq-or-lt_of_le (g tt))

-- the highest level that is counted, by what is counted at it and above it
highest_at : (n m : ℕ) (f : ℕ → ℕ) → m < n → 0 < f m → ((u : ℕ) → m < u → u < n → f u ≡ 0) → highest n f ≡ pos m
highest_at zero m f l p none = absurd (omega arith)
highest_at (suc n) m f l p none = elim (ℕ_discrete m n) [
  | yes e ↦ highest_top n f (subst (λ k. 0 < f k) e p) ∙ ap pos (sym e)
  | no q ↦ highest_below n f (none n (above q) (omega arith)) ∙ highest_at n m f (above q) p (λ u i j. none u i (omega arith))
]
  where
    above : (m ≡ n → ⊥) → m < n
    above q = omega arith

pub highest_none : (n : ℕ) (f : ℕ → ℕ) → ((u : ℕ) → u < n → f u ≡ 0) → highest n f ≡ negsuc 0
unfolding highest
highest_none zero f none = refl
highest_none (suc n) f none = rw (eq-eqb (f n) 0 (none n (omega arith))) (highest_none n f (λ u l. none u (omega arith)))

-- 1 or 0
abbrev bit : Bool → ℕ
bit b = cond b 1 0

module _ (n m : ℕ) (held : ℕ → ℕ → Bool) (y : ℕ → ℕ → ℕ) where
  -- how many of the samples held pass a test, and the largest of them
  abbrev pub passing : (test : ℕ → Bool) → ℕ
  passing test = sum n (λ j. sum m (λ i. cond (held j i && test (y j i)) 1 0))

  abbrev pub largest_held : ℕ
  largest_held = largest n (λ j. largest m (λ i. cond (held j i) (y j i) 0))

  -- tests that agree on the samples held
  passing_cong : (f g : ℕ → Bool) → ((j i : ℕ) → j < n → i < m → T (held j i) → f (y j i) ≡ g (y j i)) → passing f ≡ passing g
  passing_cong f g h = sum_cong n (λ j p. sum_cong m (λ i q. at (held j i) (f (y j i)) (g (y j i)) (h j i p q)))
    where
      at : (b u v : Bool) → (T b → u ≡ v) → bit (b && u) ≡ bit (b && v)
      at true u v e = ap bit (e tt)
      at false u v e = refl

  -- the counts of the levels below v, added up
  levels_up : (v : ℕ) → sum v (λ u. passing (λ z. eqb z u)) ≡ passing (λ z. ltb z v)
  levels_up v =
      sum_swap v n (λ u j. sum m (λ i. cond (held j i && eqb (y j i) u) 1 0))
      ∙ sum_cong n (λ j l. sum_swap v m (λ u i. cond (held j i && eqb (y j i) u) 1 0) ∙ sum_cong m (λ i k. at (held j i) (y j i)))
    where
      at : (h : Bool) (z : ℕ) → sum v (λ u. cond (h && eqb z u) 1 0) ≡ cond (h && ltb z v) 1 0
      at true z = one_of v z
      at false z = sum_zero v (λ u l. refl)

  -- up to v: those that are not above it
  up_to_lem : (v : ℕ) → sum (suc v) (λ u. passing (λ z. eqb z u)) ≡ passing (λ z. leb z v)
  up_to_lem v =
      levels_up (suc v)
      ∙ passing_cong (λ z. ltb z (suc v)) (λ z. leb z v) (λ j i p q t.
      bool_eq _ _ (λ t. let l = ltb→lt (y j i) (suc v) t in le→leb (y j i) v (omega arith)) (λ t. let l = leb→le (y j i) v t in lt→ltb (y j i) (suc v) (omega arith)))

  -- a sample that is held is not above the largest
  held_most : (j i : ℕ) → j < n → i < m → T (held j i) → y j i ≤ largest_held
  held_most j i p q t =
      let a = le-largest n (λ j. largest m (λ i. cond (held j i) (y j i) 0)) j p in
      let b = le-largest m (λ i. cond (held j i) (y j i) 0) i q in
      let e : cond (held j i) (y j i) 0 ≡ y j i = rw (true_of (held j i) t) refl in
      omega arith

  -- no level above it is counted
  above_none : (u : ℕ) → largest_held < u → passing (λ z. eqb z u) ≡ 0
  above_none u l = sum_zero n (λ j p. sum_zero m (λ i q. at (held j i) (held_most j i p q)))
    where
      at : {j i : ℕ} (b : Bool) → (T b → y j i ≤ largest_held) → bit (b && eqb (y j i) u) ≡ 0
      at {j} {i} true h = rw (ne_eqb (y j i) u (λ e. let k = h tt in omega arith)) refl
      at {j} {i} false h = refl

  -- where a sample is held, the largest is one of them
  largest_counts : 0 < passing (λ z. true) → 0 < passing (λ z. eqb z largest_held)
  largest_counts some = go (passing (λ z. eqb z largest_held)) refl
    where
      -- without it, all would be below it
      lower : passing (λ z. eqb z largest_held) ≡ 0 → (k : ℕ) → largest_held ≡ suc k → ⊥
      lower none k e =
          let b = largest_bound n k (λ j p. largest_bound m k (λ i q. at j i p q none)) in
          omega arith
        where
          at : (j i : ℕ) → j < n → i < m → passing (λ z. eqb z largest_held) ≡ 0 → cond (held j i) (y j i) 0 ≤ k
          at j i p q none =
              by (held j i) (held_most j i p q)
              (term_zero m (λ i. cond (held j i && eqb (y j i) largest_held) 1 0) (term_zero n (λ j. sum m (λ i. cond (held j i && eqb (y j i) largest_held) 1 0)) none j p) i q)
            where
              by : (b : Bool) → (T b → y j i ≤ largest_held) → bit (b && eqb (y j i) largest_held) ≡ 0 → cond b (y j i) 0 ≤ k
              by false h z = zero-le
              by true h z = elim (ℕ_discrete (y j i) largest_held) [
                | yes e ↦ absurd (let w : bit (eqb (y j i) largest_held) ≡ 1 = rw (eq-eqb (y j i) largest_held e) refl in omega arith)
                | no q ↦ let w = h tt in omega arith
              ]

      -- and where it is 0, those not above it are all
      lowest : largest_held ≡ 0 → passing (λ z. true) ≡ passing (λ z. eqb z largest_held)
      lowest e =
          passing_cong (λ z. true) (λ z. eqb z largest_held) (λ j i p q t. sym (eq-eqb (y j i) largest_held (let h = held_most j i p q t in omega arith)))

      go : (k : ℕ) → passing (λ z. eqb z largest_held) ≡ k → 0 < passing (λ z. eqb z largest_held)
      go (suc k) e = omega arith
      go zero e = absurd (split largest_held refl)
        where
          split : (k : ℕ) → largest_held ≡ k → ⊥
          split zero q = let w = lowest q in omega arith
          split (suc k) q = lower e k q

  -- where every sample is below the number of levels, the counts of the levels add up to the samples held
  pub levels_all : (levels : ℕ) → ((j i : ℕ) → y j i < levels) → sum levels (λ u. passing (λ z. eqb z u)) ≡ passing (λ z. true)
  levels_all levels low = levels_up levels ∙ passing_cong (λ z. ltb z levels) (λ z. true) (λ j i p q t. lt-ltb (y j i) levels (low j i))

  -- and the level of a rank by the counts of the levels is the rule's
  pub ranked_by_rule : (levels R : ℕ) → ((j i : ℕ) → y j i < levels)
      → ranked levels R (λ u. passing (λ z. eqb z u))
      ≡ cond (leb R (passing (λ z. true))) (pos (first_not levels (λ v. ltb (passing (λ z. leb z v)) R)))
      (cond (eqb (passing (λ z. true)) 0) (negsuc 0) (pos largest_held))
  unfolding ranked up_to
  ranked_by_rule levels R low =
      ap₂ (λ k z. cond (leb R k) (pos z) (highest levels (λ u. passing (λ z. eqb z u)))) (levels_all levels low)
      (first_cong levels {f = below (λ u. passing (λ z. eqb z u)) R} {g = λ v. ltb (passing (λ z. leb z v)) R} (λ v l. ap (λ k. ltb k R) (up_to_lem v)))
      ∙ ap (λ z. cond (leb R (passing (λ z. true))) (pos (first_not levels (λ v. ltb (passing (λ z. leb z v)) R))) z) (top (passing (λ z. true)) refl)
    where
      below_levels : largest_held < levels
      below_levels =
          let l = low 0 0 in
          let b = largest_bound n (levels - 1) (λ j p. largest_bound m (levels - 1) (λ i q. at (held j i) (low j i))) in
          omega arith
        where
          at : {j i : ℕ} (b : Bool) → y j i < levels → cond b (y j i) 0 ≤ levels - 1
          at true l = omega arith
          at false l = zero-le

      top : (k : ℕ) → passing (λ z. true) ≡ k
          → highest levels (λ u. passing (λ z. eqb z u)) ≡ cond (eqb (passing (λ z. true)) 0) (negsuc 0) (pos largest_held)
      top zero e =
          rw (eq-eqb (passing (λ z. true)) 0 e)
          (highest_none levels (λ u. passing (λ z. eqb z u)) (λ u l. term_zero levels (λ u. passing (λ z. eqb z u)) (levels_all levels low ∙ e) u l))
      top (suc k) e =
          rw (ne_eqb (passing (λ z. true)) 0 (λ q. omega arith))
          (highest_at levels largest_held (λ u. passing (λ z. eqb z u)) below_levels (largest_counts (omega arith)) (λ u l p. above_none u l))
