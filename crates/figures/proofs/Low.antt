-- A scan of samples whose cut is 0: what is dropped of it is all of it.
-- Assumes nothing.
use Rattle.std.proofs.Common.{ℕ, suc, ◌+◌, ◌-◌, ◌*◌, ◌/◌, ◌^◌, ◌≤◌, ◌<◌, arith, ◌≡◌, sym, ap, ap₂, ◌∙◌, true, ℤ, pos, ◌+ℤ◌, length, pow_pos, pow_mono}
use Rattle.std.proofs.Math.Nat.{div-eq_of_lt, zero-div}
use Rattle.arith.specs.All.{all}
use Rattle.arith.specs.Diff.{Diff}
use Rattle.arith.specs.Part.{pos_part, neg_part}
use Rattle.arith.specs.Sum.{sum}
use Rattle.arith.proofs.Ints.{diff_pos, diff_sub, diff_add, diff_eq}
use Rattle.arith.proofs.Passes.{length-grid}
use Rattle.arith.proofs.Sums.{sum_cong, sum_const, sum_zero}
use Rattle.layout.specs.declared.Rect.{Rect}
use Rattle.layout.specs.declared.Table.{Table}
use Rattle.layout.specs.Contents.{rect}
use Rattle.layout.specs.Measure.{rows_of, cols_of, loss_figure}
use Rattle.grid.specs.Grid.{offset}
use Rattle.limits.proofs.Bounds.{Edges, extent}
use Rattle.limits.proofs.Granted.{Granted}
use Rattle.rule.specs.Pixels.{full_value, cut_value}
use Rattle.rule.specs.Questions.{sample_good}
use Rattle.rule.specs.Sums.{Image, sample_at, covered, full_sum, column_sum, window_sum, cut_sum, scaled_sum}
use Rattle.rule.specs.Accuracy.{loss_under}
use Rattle.rule.proofs.Accurate.{weighted}
use Rattle.rule.proofs.Centred.{centred_good, centred_image}
use Rattle.figures.specs.Off.{low_scan}

-- an image that is v wherever a rectangle covers it
abbrev Even : Image → Rect → (v : ℕ) → Type 0
Even x d v = (i j : ℕ) → i < rows_of d → j < cols_of d → x (covered (pos 15) d.trailrow i) (covered (pos 15) d.trailcol j) ≡ v

-- its full sum is v times the area
full_even : (x : Image) (d : Rect) (v : ℕ) → Even x d v → full_sum x d (pos 15) (pos 15) ≡ rows_of d * cols_of d * v
unfolding full_sum
full_even x d v e =
    sum_cong (cols_of d) (λ j h. sum_cong (rows_of d) (λ i l. e i j l h) ∙ sum_const (rows_of d) v)
    ∙ sum_const (cols_of d) (rows_of d * v) ∙ omega arith

-- and its cut sum is 0 where v is below 2^q1
scaled_even : (t : Table) (x : Image) (d : Rect) (v : ℕ) → v < 2 ^ t.q1 → Even x d v → scaled_sum t x d (pos 15) (pos 15) ≡ 0
unfolding scaled_sum cut_sum window_sum column_sum
scaled_even t x d v l e =
    let w : sum (cols_of d) (λ j. sum (rows_of d) (λ i. x (covered (pos 15) d.trailrow i) (covered (pos 15) d.trailcol j) / 2 ^ t.q1) / 2 ^ t.q2) ≡ 0 =
    sum_zero (cols_of d) (λ j h.
    ap (λ s. s / 2 ^ t.q2) (sum_zero (rows_of d) (λ i k. ap (λ y. y / 2 ^ t.q1) (e i j k h) ∙ div-eq_of_lt l)) ∙ zero-div (2 ^ t.q2)) in
    ap (λ s. s / 2 ^ t.q3 * 2 ^ (t.q1 + t.q2 + t.q3)) w ∙ ap (λ s. s * 2 ^ (t.q1 + t.q2 + t.q3)) (zero-div (2 ^ t.q3)) ∙ omega arith

-- place i of an edge that is covered at the centre, as an offset
place : {l t : ℤ} (e : Edges l t) (i : ℕ) → covered (pos 15) t i ≡ pos 15 +ℤ offset (e.trail + i)
unfolding covered
place e i =
    diff_eq (diff_add (diff_add (diff_pos 15) e.trail_is) (diff_pos (suc i))) (diff_add (diff_pos 15) (diff_sub (e.trail + i) 15)) (omega arith)

-- the loss figure where only q1 drops
only_first : (t : Table) (d : Rect) → t.q2 ≡ 0 → t.q3 ≡ 0 → loss_figure t d ≡ rows_of d * cols_of d * (2 ^ t.q1 - 1)
unfolding loss_figure
only_first t d e2 e3 = rw (e2, e3) (omega arith)

module _ (t : Table) (g : Granted t) where
  abbrev low : ℕ
  low = 2 ^ t.q1 - 1

  low_less : low < 2 ^ t.q1
  low_less = let p = pow_pos t.q1 in omega arith

  low_most : low ≤ 2 ^ t.b - 1
  low_most = let q = g.q1_less in let p = pow_mono {i = t.q1} {j = t.b} (omega arith) in omega arith

  low_small : 2 ^ t.b - 1 < 65535
  low_small = let p = pow_mono {i = t.b} {j = 12} g.bits_most in omega arith

  pub low_long : length (low_scan t) ≡ 961
  unfolding low_scan
  low_long = length-grid 31 31 (λ a b. low)

  pub low_good : all (length (low_scan t)) (sample_good (2 ^ t.b - 1) (low_scan t)) ≡ true
  unfolding low_scan
  low_good = centred_good (λ a b. low) (λ a b. low_most)

  low_even : (k : ℕ) → k < t.count → Even (sample_at 31 (low_scan t)) (rect t k) low
  unfolding low_scan rows_of cols_of
  low_even k h i j l m =
      let r = g.bounds k h in
      let x = extent r.row in
      let y = extent r.col in
      let u = r.row.most in
      let v = r.col.most in
      ap₂ (sample_at 31 (low_scan t)) (place r.row i) (place r.col j)
      ∙ centred_image (λ a b. low) (λ a b. low_most) low_small (r.row.trail + i) (r.col.trail + j) (omega arith) (omega arith)

  -- the cut value is 0
  pub low_cut : cut_value t (sample_at 31 (low_scan t)) (pos 15) (pos 15) ≡ pos 0
  unfolding cut_value
  low_cut =
      let x = sample_at 31 (low_scan t) in
      let s : ℕ → ℕ = λ k. scaled_sum t x (rect t k) (pos 15) (pos 15) in
      let z : (k : ℕ) → k < t.count → s k ≡ 0 = λ k h. scaled_even t x (rect t k) low low_less (low_even k h) in
      let p = sum_zero t.count {f = λ k. pos_part (rect t k).weight * s k} (λ k h. ap (λ y. pos_part (rect t k).weight * y) (z k h) ∙ omega arith) in
      let n = sum_zero t.count {f = λ k. neg_part (rect t k).weight * s k} (λ k h. ap (λ y. neg_part (rect t k).weight * y) (z k h) ∙ omega arith) in
      diff_eq (weighted t s) (diff_pos 0) (omega arith)

  -- where only q1 drops, the full value is all of the loss figures
  pub low_full : t.q2 ≡ 0 → t.q3 ≡ 0 → Diff (full_value t (sample_at 31 (low_scan t)) (pos 15) (pos 15)) (loss_under pos_part t) (loss_under neg_part t)
  unfolding full_value loss_under
  low_full e2 e3 =
      let x = sample_at 31 (low_scan t) in
      let f : ℕ → ℕ = λ k. full_sum x (rect t k) (pos 15) (pos 15) in
      let z : (k : ℕ) → k < t.count → f k ≡ loss_figure t (rect t k) = λ k h. full_even x (rect t k) low (low_even k h) ∙ sym (only_first t (rect t k) e2 e3) in
      rw (
        sym (sum_cong t.count {f = λ k. pos_part (rect t k).weight * f k} (λ k h. ap (λ y. pos_part (rect t k).weight * y) (z k h))),
        sym (sum_cong t.count {f = λ k. neg_part (rect t k).weight * f k} (λ k h. ap (λ y. neg_part (rect t k).weight * y) (z k h))),
      )
      (weighted t f)
