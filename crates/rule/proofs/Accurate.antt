-- Demand 3's three parts, for any table, scan and place.
-- Assumes nothing.
use Rattle.std.proofs.Common.{ℕ, zero, suc, ◌+◌, ◌*◌, ◌^◌, ◌≤◌, mul-le-mul_left, arith, ◌≡◌, refl, ap, ◌∙◌, ℤ, pos, ◌-ℤ◌, ◌*ℤ◌, pow_pos}
use Rattle.arith.specs.Sum.{sum, sum_ℤ}
use Rattle.arith.specs.Part.{pos_part, neg_part}
use Rattle.arith.specs.Diff.{Diff}
use Rattle.arith.proofs.Sums.{sum_zero, sum_cong, sum_mono, sum-add, term_zero}
use Rattle.arith.proofs.Ints.{diff_parts, diff_scale, diff_sum, diff_minus, diff_shift, diff_le, diff_neg, diff_pos}
use Rattle.layout.specs.declared.Rect.{Rect}
use Rattle.layout.specs.declared.Table.{Table}
use Rattle.layout.specs.Contents.{rect}
use Rattle.layout.specs.Measure.{rows_of, cols_of, loss_figure}
use Rattle.rule.specs.Sums.{Image, full_sum, scaled_sum}
use Rattle.rule.specs.Pixels.{full_value, cut_value}
use Rattle.rule.specs.Accuracy.{NothingDropped, loss_under, RectAccuracy, Accuracy}
use Rattle.rule.proofs.Dropped.{sample_rests, column_rests, window_rest, dropped, full_dropped, dropped_most}

-- a product with a power of two is 0 only where the other factor is
factor_zero : (q n : ℕ) → 2 ^ q * n ≡ 0 → n ≡ 0
factor_zero q n e = let p = pow_pos q in let l = mul-le-mul_left n p in omega arith

-- nothing is dropped exactly when the total is 0
none_zero : (t : Table) (x : Image) (d : Rect) (r c : ℤ) → NothingDropped t x d r c → dropped t x d r c ≡ 0
unfolding dropped sample_rests column_rests window_rest
none_zero t x d r c n =
    rw (sum_zero (cols_of d) (λ j l. sum_zero (rows_of d) (λ i h. n.samples i j h l)), sum_zero (cols_of d) n.columns, n.window) (omega arith)

zero_none : (t : Table) (x : Image) (d : Rect) (r c : ℤ) → dropped t x d r c ≡ 0 → NothingDropped t x d r c
unfolding dropped sample_rests column_rests window_rest
zero_none t x d r c e =
    let s : sample_rests t x d r c ≡ 0 = omega arith in
    let p : column_rests t x d r c ≡ 0 = factor_zero t.q1 _ (omega arith) in
    let w : window_rest t x d r c ≡ 0 = factor_zero (t.q1 + t.q2) _ (omega arith) in
    record {
      samples = λ i j h l. term_zero (rows_of d) _ (term_zero (cols_of d) _ s j l) i h;
      columns = term_zero (cols_of d) _ p;
      window = w;
    }

-- A1 and A2
pub rect_accuracy : (t : Table) (x : Image) (d : Rect) (r c : ℤ) → RectAccuracy t x d r c
rect_accuracy t x d r c =
    let e = full_dropped t x d r c in
    let m = dropped_most t x d r c in
    record {
      exact = ((λ h. zero_none t x d r c (omega arith)), λ n. let z = none_zero t x d r c n in omega arith);
      at_least = λ n. some _ _ _ (λ z. n (zero_none t x d r c z)) e;
      at_most = λ n. omega arith;
    }
  where
    some : (f s k : ℕ) → ¬ (k ≡ 0) → f ≡ s + k → s + 1 ≤ f
    some f s zero n e = absurd (n refl)
    some f s (suc k) n e = omega arith

-- a weighted sum by the positive and by the negative weights
pub weighted :
    (t : Table) (f : ℕ → ℕ)
    → Diff (sum_ℤ t.count (λ k. (rect t k).weight *ℤ pos (f k)))
    (sum t.count (λ k. pos_part (rect t k).weight * f k))
    (sum t.count (λ k. neg_part (rect t k).weight * f k))
weighted t f = diff_sum t.count (λ k l. diff_scale (f k) (diff_parts (rect t k).weight))

-- full sums by cut sums and what was dropped, under any weights
parted :
    (n : ℕ) (part f s k : ℕ → ℕ) → ((i : ℕ) → f i ≡ s i + k i)
    → sum n (λ i. part i * f i) ≡ sum n (λ i. part i * s i) + sum n (λ i. part i * k i)
parted n part f s k e =
    sum_cong n (λ i l. let h = ap (λ y. part i * y) (e i) in omega arith) ∙ sum-add n (λ i. part i * s i) (λ i. part i * k i)

-- A3: full value less cut value is what was dropped, each times its weight
value_dropped : (t : Table) (x : Image) (r c : ℤ)
    → Diff (full_value t x r c -ℤ cut_value t x r c)
    (sum t.count (λ k. pos_part (rect t k).weight * dropped t x (rect t k) r c))
    (sum t.count (λ k. neg_part (rect t k).weight * dropped t x (rect t k) r c))
unfolding full_value cut_value
value_dropped t x r c =
    let f : ℕ → ℕ = λ k. full_sum x (rect t k) r c in
    let s : ℕ → ℕ = λ k. scaled_sum t x (rect t k) r c in
    let k : ℕ → ℕ = λ k. dropped t x (rect t k) r c in
    let p = parted t.count (λ k. pos_part (rect t k).weight) f s k (λ i. full_dropped t x (rect t i) r c) in
    let n = parted t.count (λ k. neg_part (rect t k).weight) f s k (λ i. full_dropped t x (rect t i) r c) in
    diff_shift (diff_minus (weighted t f) (weighted t s)) (omega arith)

pub accuracy : (t : Table) (x : Image) (r c : ℤ) → Accuracy t x r c
unfolding loss_under
accuracy t x r c =
    let v = value_dropped t x r c in
    let p = sum_mono t.count {f = λ k. pos_part (rect t k).weight * dropped t x (rect t k) r c} {g = λ k. pos_part (rect t k).weight * loss_figure t (rect t k)} (λ k l. mul-le-mul_left (pos_part (rect t k).weight) (dropped_most t x (rect t k) r c)) in
    let n = sum_mono t.count {f = λ k. neg_part (rect t k).weight * dropped t x (rect t k) r c} {g = λ k. neg_part (rect t k).weight * loss_figure t (rect t k)} (λ k l. mul-le-mul_left (neg_part (rect t k).weight) (dropped_most t x (rect t k) r c)) in
    record {
      each = λ k l. rect_accuracy t x (rect t k) r c;
      low = diff_le (diff_neg (loss_under neg_part t)) v (omega arith);
      high = diff_le v (diff_pos (loss_under pos_part t)) (omega arith);
    }
