-- The sums over the weight grid are at most those over the areas, whatever the edges.
-- Assumes nothing.
use Rattle.std.proofs.Common.{ℕ, zero, suc, ◌+◌, ◌-◌, ◌*◌, ◌≤◌, ◌<◌, le_trans, le_of_eq, mul-le-mul, mul-le-mul_left, arith, ◌≡◌, ◌∙◌, Bool, true, false, cond, T, ℤ, ◌-ℤ◌}
use Rattle.std.specs.Int.Signed.{le_z, lt_z}
use Rattle.std.proofs.Math.Facts.{and_yes}
use Rattle.arith.specs.Part.{pos_part, neg_part}
use Rattle.arith.specs.Sum.{sum}
use Rattle.arith.proofs.Ints.{diff_parts, diff_sub, diff_minus, le_diff, lt_diff, diff_pos_part, diff_neg_part}
use Rattle.arith.proofs.Sums.{sum_cong, sum_mono, sum_scale, sum_swap}
use Rattle.layout.specs.declared.Rect.{Rect}
use Rattle.layout.specs.Measure.{rows_of, cols_of}
use Rattle.grid.specs.Grid.{offset, covers, factor, grid_sum, area_sum}
use Rattle.grid.proofs.Entries.{laid, grid_parts, on_axis, factor_axes}

module _ (lead trail : ℤ) where
  covered_between : (a : ℕ) → T (covers lead trail (offset a)) → (pos_part trail + 15 < a + neg_part trail) × (a + neg_part lead ≤ pos_part lead + 15)
  unfolding covers
  covered_between a t =
      let y = and_yes (lt_z trail (offset a)) (le_z (offset a) lead) t in
      (lt_diff (diff_parts trail) (diff_sub a 15) (record { lt = y.0 }), le_diff (diff_sub a 15) (diff_parts lead) (record { le = y.1 }))

  -- of n offsets an axis covers at most lead - trail, and none before its first
  abbrev Most : (n s : ℕ) → Type 0
  Most n s = (s ≤ pos_part lead + neg_part trail - (neg_part lead + pos_part trail)) × (s ≤ n + neg_part trail - (pos_part trail + 16))

  one_more : (n s : ℕ) → Most n s → (b : Bool) → (T b → (pos_part trail + 15 < n + neg_part trail) × (n + neg_part lead ≤ pos_part lead + 15))
      → Most (suc n) (s + cond b 1 0)
  one_more n s i true y = let l = y tt in (omega arith, omega arith)
  one_more n s i false y = (omega arith, omega arith)

  axis_both : (n : ℕ) → Most n (sum n (on_axis lead trail))
  unfolding sum
  axis_both zero = (omega arith, omega arith)
  axis_both (suc n) = one_more n (sum n (on_axis lead trail)) (axis_both n) (covers lead trail (offset n)) (covered_between n)

  axis_most : (n : ℕ) → sum n (on_axis lead trail) ≤ pos_part (lead -ℤ trail)
  axis_most n = rw (diff_pos_part (diff_minus (diff_parts lead) (diff_parts trail))) (axis_both n).0

-- a rectangle takes at most M·N samples
factors_most : (d : Rect) → sum 31 (λ a. sum 31 (factor d a)) ≤ rows_of d * cols_of d
unfolding rows_of cols_of
factors_most d =
    let r = on_axis d.leadrow d.trailrow in
    let c = on_axis d.leadcol d.trailcol in
    let e : sum 31 (λ a. sum 31 (factor d a)) ≡ sum 31 c * sum 31 r =
    sum_cong 31 (λ a l. sum_cong 31 (λ b m. factor_axes d a b) ∙ sum_scale 31 (r a) c ∙ flip (r a) (sum 31 c)) ∙ sum_scale 31 (sum 31 c) r in
    let m = mul-le-mul (axis_most d.leadcol d.trailcol 31) (axis_most d.leadrow d.trailrow 31) in
    omega arith
  where
    flip : (x y : ℕ) → x * y ≡ y * x
    flip x y = omega arith

laid_below : (part : ℤ → ℕ) (n : ℕ) (f : ℕ → Rect) → sum 31 (λ a. sum 31 (laid part n f a)) ≤ area_sum part n f
unfolding area_sum
laid_below part n f =
    let p : ℕ → ℕ = λ k. part (f k).weight in
    let e : sum 31 (λ a. sum 31 (laid part n f a)) ≡ sum n (λ k. p k * sum 31 (λ a. sum 31 (factor (f k) a))) =
    sum_cong 31 (λ a l. sum_swap 31 n (λ b k. p k * factor (f k) a b) ∙ sum_cong n (λ k m. sum_scale 31 (p k) (factor (f k) a)))
    ∙ sum_swap 31 n (λ a k. p k * sum 31 (factor (f k) a)) ∙ sum_cong n (λ k l. sum_scale 31 (p k) (λ a. sum 31 (factor (f k) a))) in
    le_trans (le_of_eq e) (sum_mono n (λ k l. mul-le-mul_left (p k) (factors_most (f k))))

pub grid_below_high : (n : ℕ) (f : ℕ → Rect) → grid_sum pos_part n f ≤ area_sum pos_part n f
unfolding grid_sum
grid_below_high n f =
    le_trans (sum_mono 31 (λ a l. sum_mono 31 (λ b m. let e = diff_pos_part (grid_parts n f a b) in omega arith))) (laid_below pos_part n f)

pub grid_below_low : (n : ℕ) (f : ℕ → Rect) → grid_sum neg_part n f ≤ area_sum neg_part n f
unfolding grid_sum
grid_below_low n f =
    le_trans (sum_mono 31 (λ a l. sum_mono 31 (λ b m. let e = diff_neg_part (grid_parts n f a b) in omega arith))) (laid_below neg_part n f)
