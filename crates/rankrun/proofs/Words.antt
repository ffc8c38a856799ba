-- M102-9: the words of the counts, on any stores.
-- Assumes nothing.
use Prim.Native.Nat.{ℕ, ◌*◌, ◌^◌, ◌≤◌, ◌<◌, zero-le}
use native.Mathlib.Nat.{mul-le-mul, mul-le-mul_right, le_trans}
use native.Mathlib.Omega.{arith}
use mathlib.Core.Path.{◌≡◌, sym, subst}
use mathlib.Core.Bool.{Bool, true, false, cond}
use lib.Dec.{T, ltb, ltb→lt}
use lib.IntN.{ℤ, pos, negsuc}
use lib.Pow.{pow_mono}
use Rattle.arith.specs.All.{all}
use Rattle.arith.proofs.Sums.{sum_bound}
use Rattle.layout.specs.Measure.{rows_of, cols_of}
use Rattle.limits.specs.Limits.{rect_good}
use Rattle.limits.proofs.Bounds.{RectBounds, rect_bounds}
use Rattle.rule.specs.Sums.{covered}
use Rattle.levels.specs.Levels.{count_at}
use Rattle.histograms.specs.Windows.{column_count, window_count}
use Rattle.histograms.specs.Arrivals.{Counting, good_at, counts_after}
use Rattle.histograms.proofs.Counts.{counts_most}
use Rattle.rankrun.specs.Words.{CountWords}

module _ (v : Counting) (ok : rect_good v.what.rect ≡ true) (few : v.what.b ≤ 8) (good : T (all v.what.width (good_at v))) where
  bounds : RectBounds v.what.rect
  bounds = rect_bounds v.what.rect (subst T (sym ok) tt)

  column_most : (u : ℕ) → u < 2 ^ v.what.b → (j : ℤ) → column_count (counts_after v) v.what.width u j ≤ rows_of v.what.rect
  unfolding column_count
  column_most u h (negsuc j) = zero-le
  column_most u h (pos j) = go (ltb j v.what.width) (ltb→lt j v.what.width)
    where
      go : (q : Bool) → (T q → j < v.what.width) → cond q (count_at (counts_after v) j u) 0 ≤ rows_of v.what.rect
      go true l = counts_most v few good j u (l tt) h
      go false l = zero-le

  window_most : (u : ℕ) → u < 2 ^ v.what.b → (c : ℤ)
      → window_count (counts_after v) v.what.width v.what.rect c u ≤ rows_of v.what.rect * cols_of v.what.rect
  unfolding window_count
  window_most u h c =
      let m = sum_bound (cols_of v.what.rect) (rows_of v.what.rect) (λ j l. column_most u h (covered c v.what.rect.trailcol j)) in omega arith

  area_most : rows_of v.what.rect * cols_of v.what.rect ≤ 961
  area_most = mul-le-mul bounds.rows_most bounds.cols_most

  -- after an arrival that question 19 accepts
  pub count_words : CountWords v
  count_words =
      record {
        column = λ c u l h. counts_most v few good c u l h;
        column_word = bounds.rows_most;
        window = λ c u h. window_most u h (pos c);
        window_word = area_most;
        total = λ c.
            let a = area_most in
            let s = sum_bound (2 ^ v.what.b) 961 (λ u h. let w = window_most u h (pos c) in le_trans w a) in
            let p = pow_mono few in
            let m = mul-le-mul_right 961 p in
            omega arith;
      }
