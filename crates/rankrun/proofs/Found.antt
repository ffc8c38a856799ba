-- The level of a rank in counts: formula (2) of source 2 of docs/RULES.md, and that it is one of the levels counted.
-- Assumes nothing.
use Prim.Native.Nat.{ℕ, zero, suc, ◌+◌, ◌≤◌, ◌<◌}
use native.Mathlib.Omega.{arith}
use mathlib.Core.Path.{◌≡◌, refl, sym, ap, ◌∙◌, subst}
use mathlib.Core.Bool.{Bool, true, false, not}
use mathlib.Core.Logic.{◌↔◌}
use lib.Dec.{T, leb, leb→le, nleb→lt, ltb→lt}
use lib.IntN.{ℤ, pos, negsuc}
use borrow.Author.Tests.{le-leb, lt-leb, ltb-false}
use Rattle.arith.specs.Sum.{sum}
use Rattle.arith.specs.First.{first_not}
use Rattle.arith.proofs.Firsts.{first_before, first_fails}
use Rattle.arith.proofs.Sums.{sum_prefix, sum-suc, term_zero}
use Rattle.levels.specs.Levels.{up_to, below, highest, ranked}
use Rattle.levels.proofs.Ranks.{reached_at, highest_top, highest_below}
use Rattle.rankrun.specs.Rule.{RankAt}
use Rattle.rankrun.proofs.Tallies.{highest_none}

-- a level among n that is counted
pub record Counted (n : ℕ) (f : ℕ → ℕ) (z : ℤ) : Type 0 where
  pub level : ℕ
  pub is : z ≡ pos level
  pub low : level < n
  pub some : 0 < f level

-- the highest level that is counted
pub highest_counted : (n : ℕ) (f : ℕ → ℕ) → 0 < sum n f → Counted n f (highest n f)
unfolding sum
highest_counted zero f h = absurd (omega arith)
highest_counted (suc n) f h = go (highest_counted n f) (f n) refl
  where
    go : (0 < sum n f → Counted n f (highest n f)) → (k : ℕ) → f n ≡ k → Counted (suc n) f (highest (suc n) f)
    go less (suc k) e = record { level = n; is = highest_top n f (omega arith); low = omega arith; some = omega arith }
    go less zero e =
        let c = less (omega arith) in
        record { level = c.level; is = highest_below n f e ∙ c.is; low = let l = c.low in omega arith; some = c.some }

-- where at least R > 0 are counted
module _ (n R : ℕ) (f : ℕ → ℕ) (some : 0 < R) (enough : R ≤ sum n f) where
  abbrev first : ℕ
  first = first_not n (below f R)

  before : (k : ℕ) → k < first → sum (suc k) f < R
  unfolding up_to
  before k l = ltb→lt (up_to f k) R (first_before n (below f R) k l)

  -- a level reaches R
  found : first < n
  unfolding sum
  found = go n enough refl
    where
      go : (k : ℕ) → R ≤ sum k f → k ≡ n → first < n
      go zero h e = absurd (omega arith)
      go (suc k) h e = by (leb n first) (leb→le n first) (nleb→lt n first)
        where
          by : (b : Bool) → (T b → n ≤ first) → (T (not b) → first < n) → first < n
          by true y z = absurd (let v = y tt in let w = before k (omega arith) in omega arith)
          by false y z = z tt

  ranked-first : ranked n R f ≡ pos first
  unfolding ranked
  ranked-first = rw (le-leb R (sum n f) enough) refl

  -- formula (2) holds of it
  found_at : RankAt f R first
  unfolding up_to sum
  found_at = record { before = less first refl; reached = rw (next first) (ltb-false (up_to f first) R (first_fails n (below f R) found)) }
    where
      next : (k : ℕ) → k + 1 ≡ suc k
      next k = omega arith

      less : (k : ℕ) → first ≡ k → sum first f < R
      less k e = subst (λ i. sum i f < R) (sym e) (at k e)
        where
          at : (k : ℕ) → first ≡ k → sum k f < R
          at zero e = some
          at (suc k) e = before k (omega arith)

  -- and of no other level
  pub rank_at : (k : ℕ) → (ranked n R f ≡ pos k) ↔ RankAt f R k
  rank_at k = (
    (λ e. subst (RankAt f R) (pos_inj (sym ranked-first ∙ e)) found_at),
    λ r. ranked-first ∙ ap pos (reached_at f R n k (inside r) r.before (last r)),
  )
    where
      pos_inj : {i j : ℕ} → pos i ≡ pos j → i ≡ j
      pos_inj e = ap (λ z. magnitude z) e
        where
          magnitude : ℤ → ℕ
          magnitude (pos i) = i
          magnitude (negsuc i) = 0

      inside : RankAt f R k → k < n
      inside r = by (leb n k) (leb→le n k) (nleb→lt n k)
        where
          by : (b : Bool) → (T b → n ≤ k) → (T (not b) → k < n) → k < n
          by true y z = absurd (let p = sum_prefix n k f (y tt) in let q = r.before in omega arith)
          by false y z = z tt

      last : RankAt f R k → R ≤ sum k f + f k
      last r = let q = r.reached in let e : k + 1 ≡ suc k = omega arith in let s = ap (λ i. sum i f) e in let t = sum-suc k f in omega arith

  first_counted : Counted n f (ranked n R f)
  first_counted =
      let r = found_at in
      let p = r.before in
      let q = r.reached in
      let e : first + 1 ≡ suc first = omega arith in
      let s = ap (λ i. sum i f) e in
      let t = sum-suc first f in
      record { level = first; is = ranked-first; low = found; some = omega arith }

-- the level of a rank is one of the levels counted
pub ranked_counted : (n R : ℕ) (f : ℕ → ℕ) → 0 < R → 0 < sum n f → Counted n f (ranked n R f)
unfolding ranked
ranked_counted n R f some h = by (leb R (sum n f)) refl (leb→le R (sum n f)) (nleb→lt R (sum n f))
  where
    by : (b : Bool) → leb R (sum n f) ≡ b → (T b → R ≤ sum n f) → (T (not b) → sum n f < R) → Counted n f (ranked n R f)
    by true e y z = first_counted n R f some (y tt)
    by false e y z = rw (lt-leb R (sum n f) (z tt)) (highest_counted n f h)

-- or -1, where none is
pub ranked_empty : (n R : ℕ) (f : ℕ → ℕ) → 0 < R → sum n f ≡ 0 → ranked n R f ≡ negsuc 0
unfolding ranked
ranked_empty n R f some e = rw (lt-leb R (sum n f) (omega arith)) (highest_none n f (λ u l. term_zero n f e u l))
