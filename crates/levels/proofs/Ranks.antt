-- The level of a rank: what is known of the levels passed.
-- Assumes nothing.
use Prim.Native.Nat.{ℕ, zero, suc, ◌+◌, ◌≤◌, ◌<◌}
use native.Mathlib.Omega.{arith}
use native.Mathlib.Nat.{not-suc-le-zero}
use mathlib.Core.Path.{◌≡◌, refl, sym, ap, ap₂, ◌∙◌}
use mathlib.Core.Bool.{Bool, true, false, not, cond}
use lib.Dec.{T, leb, ltb, eqb, lt→ltb, ltb→lt, nltb→le}
use lib.IntN.{pos, negsuc}
use mathlib.Core.Logic.{⊎_elim}
use Rattle.std.proofs.lemmas.Bool.{cases_lt}
use borrow.Author.Tests.{le-leb, lt-leb, le-ltb, ltb-false, eq-eqb, ne_eqb}
use Rattle.arith.specs.Sum.{sum}
use Rattle.arith.specs.First.{first_not}
use Rattle.arith.proofs.Sums.{sum_prefix, sum_split, sum-suc, sum_cong}
use Rattle.arith.proofs.Firsts.{first_at, first_none, first_before, first_fails, first_last, first_cong}
use Rattle.levels.specs.Levels.{up_to, below, highest, ranked}

-- the top level counts, or the highest is the highest below it
pub highest_top : (v : ℕ) (f : ℕ → ℕ) → 0 < f v → highest (suc v) f ≡ pos v
unfolding highest
highest_top v f h = rw (ne_eqb (f v) 0 (λ e. omega arith)) refl

pub highest_below : (v : ℕ) (f : ℕ → ℕ) → f v ≡ 0 → highest (suc v) f ≡ highest v f
unfolding highest
highest_below v f e = rw (eq-eqb (f v) 0 e) refl

-- no level counts
pub highest_none : (n : ℕ) (f : ℕ → ℕ) → ((k : ℕ) → k < n → f k ≡ 0) → highest n f ≡ negsuc 0
unfolding highest
highest_none zero f h = refl
highest_none (suc n) f h = highest_below n f (h n (omega arith)) ∙ highest_none n f (λ k l. h k (omega arith))

-- v counts, and none above it
pub highest_is : (n v : ℕ) (f : ℕ → ℕ) → v < n → 0 < f v → ((k : ℕ) → v < k → k < n → f k ≡ 0) → highest n f ≡ pos v
highest_is zero v f l p h = absurd (not-suc-le-zero l)
highest_is (suc n) v f l p h =
    ⊎_elim (λ (q : v < n). highest_below n f (h n q (omega arith)) ∙ highest_is n v f q p (λ k i j. h k i (omega arith)))
    (λ (q : n ≤ v). let e : v ≡ n = omega arith in rw (sym e) (highest_top v f p)) (cases_lt v n)

module _ (f : ℕ → ℕ) (R : ℕ) where
  -- where n levels add up to less than the rank, each of them is below it
  pub all_below : (n : ℕ) → sum n f < R → (u : ℕ) → u < n → T (below f R u)
  unfolding up_to
  all_below n h u l = lt→ltb (sum (suc u) f) R (let p = sum_prefix (suc u) n f l in omega arith)

  -- the level that reaches it
  pub reached_at : (n v : ℕ) → v < n → sum v f < R → R ≤ sum v f + f v → first_not n (below f R) ≡ v
  unfolding up_to
  reached_at n v l h g = first_at n (below f R) v l (all_below v h) (le-ltb (sum (suc v) f) R (let e = sum-suc v f in omega arith))

  -- of the levels from `at` on, whose counts stand in g: those passed below the rank, with what is counted below `at` added
  pub passed_from : (at n : ℕ) (g : ℕ → ℕ) → ((i : ℕ) → i < n → g i ≡ f (at + i))
      → first_not n (λ i. ltb (sum at f + up_to g i) R) ≡ first_not n (λ i. below f R (at + i))
  unfolding up_to
  passed_from at n g h =
      first_cong n (λ i l.
      let e : at + suc i ≡ suc (at + i) = omega arith in
      ap (λ k. ltb k R) (ap (λ k. sum at f + k) (sum_cong (suc i) (λ j m. h j (omega arith))) ∙ sym (sum_split at (suc i) f) ∙ ap (λ k. sum k f) e))

  -- where the rank is reached within n levels from `at` on, one of them reaches it
  pub reached_within : (at n : ℕ) → R ≤ sum (at + suc n) f → first_not (suc n) (λ i. below f R (at + i)) < suc n
  unfolding up_to
  reached_within at n h = go (ltb k (suc n)) (ltb→lt k (suc n)) (nltb→le k (suc n))
    where
      k : ℕ
      k = first_not (suc n) (λ i. below f R (at + i))

      go : (b : Bool) → (T b → k < suc n) → (T (not b) → suc n ≤ k) → k < suc n
      go true y z = y tt
      go false y z =
          let e : suc (at + n) ≡ at + suc n = omega arith in
          let s = ap (λ i. sum i f) e in
          let l = ltb→lt (sum (suc (at + n)) f) R (first_before (suc n) (λ i. below f R (at + i)) n (z tt)) in
          absurd (omega arith)

  -- of the first level that reaches the rank, among n
  pub ranked_found : (n : ℕ) → first_not n (below f R) < n → ranked n R f ≡ pos (first_not n (below f R))
  unfolding ranked up_to
  ranked_found n h =
      let e = ltb-false (sum (suc (first_not n (below f R))) f) R (first_fails n (below f R) h) in
      let p = sum_prefix (suc (first_not n (below f R))) n f h in
      rw (le-leb R (sum n f) (omega arith)) refl

  -- or where none does, and there is a level
  pub ranked_none : (n : ℕ) → 0 < R → n ≤ first_not n (below f R) → ranked n R f ≡ highest n f
  unfolding ranked up_to sum
  ranked_none zero r h = rw (lt-leb R 0 r) refl
  ranked_none (suc n) r h = rw (lt-leb R (sum (suc n) f) (ltb→lt (sum (suc n) f) R (first_before (suc n) (below f R) n (omega arith)))) refl

-- a running sum from `before` on: where it is below the rank at level i, it is at each level before, and where it is not, i is not passed
module _ (f : ℕ → ℕ) (before R i : ℕ) where
  abbrev under : (k : ℕ) → Bool
  under k = ltb (before + up_to f k) R

  held : before + sum (suc i) f < R → (k : ℕ) → k < suc i → T (under k)
  unfolding up_to
  held h k l = lt→ltb (before + sum (suc k) f) R (let p = sum_prefix (suc k) (suc i) f l in omega arith)

  pub passes : before + sum (suc i) f < R → first_not i under + 1 ≡ first_not (suc i) under
  passes h =
      let a = first_none i under (λ k l. held h k (omega arith)) in
      let b = first_none (suc i) under (held h) in
      omega arith

  pub stays : R ≤ before + sum (suc i) f → first_not i under ≡ first_not (suc i) under
  unfolding up_to
  stays h = sym (first_last i under (le-ltb (before + sum (suc i) f) R h))

-- counts that agree below n have one highest level, and one level of each rank
pub highest_cong : (n : ℕ) {f g : ℕ → ℕ} → ((v : ℕ) → v < n → f v ≡ g v) → highest n f ≡ highest n g
unfolding highest
highest_cong zero h = refl
highest_cong (suc n) h = ap₂ (λ k z. cond (eqb k 0) z (pos n)) (h n (omega arith)) (highest_cong n (λ v l. h v (omega arith)))

pub ranked_cong : (n R : ℕ) {f g : ℕ → ℕ} → ((v : ℕ) → v < n → f v ≡ g v) → ranked n R f ≡ ranked n R g
unfolding ranked up_to
ranked_cong n R {f} {g} h =
    let s = sum_cong n h in
    let e = first_cong n {f = below f R} {g = below g R} (λ v l. ap (λ k. ltb k R) (sum_cong (suc v) (λ u i. h u (omega arith)))) in
    ap₂ (λ k z. cond (leb R k) (pos z) (highest n f)) s e ∙ ap (λ z. cond (leb R (sum n g)) (pos (first_not n (below g R))) z) (highest_cong n h)
