-- What the cuts drop: the full sum is the cut sum scaled back and the weighted total of the remainders.
-- Assumes nothing.
use Rattle.std.proofs.Common.{ℕ, ◌+◌, ◌-◌, ◌*◌, ◌%◌, ◌^◌, ◌≤◌, mul-le-mul_left, arith, ◌≡◌, ap, ◌∙◌, ℤ, pow-add}
use Rattle.std.proofs.Math.Nat.{div-add-mod}
use Rattle.arith.specs.Sum.{sum}
use Rattle.arith.proofs.Sums.{sum_cong, sum-add, sum_scale, sum_bound}
use Rattle.arith.proofs.Cut.{rem_le, sum_cut}
use Rattle.layout.specs.declared.Rect.{Rect}
use Rattle.layout.specs.declared.Table.{Table}
use Rattle.layout.specs.Measure.{rows_of, cols_of, loss_figure}
use Rattle.rule.specs.Sums.{Image, covered, full_sum, column_sum, window_sum, cut_sum, scaled_sum}

-- the remainders of the samples, of the column sums and of the window sum
unfoldable pub sample_rests : Table → Image → Rect → (r c : ℤ) → ℕ
sample_rests t x d r c = sum (cols_of d) (λ j. sum (rows_of d) (λ i. x (covered r d.trailrow i) (covered c d.trailcol j) % 2 ^ t.q1))

unfoldable pub column_rests : Table → Image → Rect → (r c : ℤ) → ℕ
column_rests t x d r c = sum (cols_of d) (λ j. column_sum t x d r (covered c d.trailcol j) % 2 ^ t.q2)

unfoldable pub window_rest : Table → Image → Rect → (r c : ℤ) → ℕ
window_rest t x d r c = window_sum t x d r c % 2 ^ t.q3

-- all of what was dropped
unfoldable pub dropped : Table → Image → Rect → (r c : ℤ) → ℕ
dropped t x d r c = sample_rests t x d r c + 2 ^ t.q1 * column_rests t x d r c + 2 ^ (t.q1 + t.q2) * window_rest t x d r c

-- the sum of the column sums before their cut
column_sums : Table → Image → Rect → (r c : ℤ) → ℕ
column_sums t x d r c = sum (cols_of d) (λ j. column_sum t x d r (covered c d.trailcol j))

-- the full sum by the column sums
full_columns : (t : Table) (x : Image) (d : Rect) (r c : ℤ) → full_sum x d r c ≡ 2 ^ t.q1 * column_sums t x d r c + sample_rests t x d r c
unfolding full_sum sample_rests column_sums column_sum
full_columns t x d r c =
    sum_cong (cols_of d) (λ j l. sum_cut (2 ^ t.q1) (rows_of d) (λ i. x (covered r d.trailrow i) (covered c d.trailcol j)))
    ∙ sum-add (cols_of d) _ _
    ∙ ap (λ s. s + sample_rests t x d r c) (sum_scale (cols_of d) (2 ^ t.q1) _)

-- the column sums by the window sum
columns_window :
    (t : Table) (x : Image) (d : Rect) (r c : ℤ) → column_sums t x d r c ≡ 2 ^ t.q2 * window_sum t x d r c + column_rests t x d r c
unfolding column_sums window_sum column_rests
columns_window t x d r c = sum_cut (2 ^ t.q2) (cols_of d) (λ j. column_sum t x d r (covered c d.trailcol j))

-- the full sum by the window sum
pub full_window :
    (t : Table) (x : Image) (d : Rect) (r c : ℤ)
    → full_sum x d r c ≡ 2 ^ (t.q1 + t.q2) * window_sum t x d r c + (sample_rests t x d r c + 2 ^ t.q1 * column_rests t x d r c)
full_window t x d r c =
    let a = full_columns t x d r c in
    let b = ap (λ s. 2 ^ t.q1 * s) (columns_window t x d r c) in
    rw (pow-add 2 t.q1 t.q2) (omega arith)

pub full_dropped : (t : Table) (x : Image) (d : Rect) (r c : ℤ) → full_sum x d r c ≡ scaled_sum t x d r c + dropped t x d r c
unfolding scaled_sum cut_sum dropped window_rest
full_dropped t x d r c =
    let a = full_window t x d r c in
    let b = ap (λ s. 2 ^ (t.q1 + t.q2) * s) (div-add-mod (window_sum t x d r c) (2 ^ t.q3)) in
    rw (pow-add 2 (t.q1 + t.q2) t.q3) (omega arith)

-- no more than the loss figure is dropped
pub dropped_most : (t : Table) (x : Image) (d : Rect) (r c : ℤ) → dropped t x d r c ≤ loss_figure t d
unfolding dropped loss_figure sample_rests column_rests window_rest
dropped_most t x d r c =
    let s = sum_bound (cols_of d) (rows_of d * (2 ^ t.q1 - 1)) {f = λ j. sum (rows_of d) (λ i. x (covered r d.trailrow i) (covered c d.trailcol j) % 2 ^ t.q1)} (λ j l. sum_bound (rows_of d) (2 ^ t.q1 - 1) (λ i h. rem_le t.q1 _)) in
    let p = mul-le-mul_left (2 ^ t.q1) (sum_bound (cols_of d) (2 ^ t.q2 - 1) {f = λ j. column_sum t x d r (covered c d.trailcol j) % 2 ^ t.q2} (λ j l. rem_le t.q2 _)) in
    let w = mul-le-mul_left (2 ^ (t.q1 + t.q2)) (rem_le t.q3 (window_sum t x d r c)) in
    omega arith
