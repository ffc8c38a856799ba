-- Which rows a pixel depends on.
-- Assumes nothing.
use Rattle.std.proofs.Common.{ℕ, suc, ◌+◌, ◌*◌, ◌/◌, ◌^◌, ◌≤◌, ◌<◌, arith, ◌≡◌, ap, ℤ, pos, ◌+ℤ◌, ◌*ℤ◌, ◌≤ℤ◌}
use Rattle.arith.specs.Part.{pos_part}
use Rattle.arith.specs.Floor.{floor_div}
use Rattle.arith.proofs.Sums.{sum_cong}
use Rattle.arith.proofs.Maxima.{le-largest}
use Rattle.arith.proofs.Ints.{diff_parts, diff_add, diff_pos, diff_minus, diff_pos_part, diff_le, sum_ℤ_cong}
use Rattle.layout.specs.declared.Rect.{Rect}
use Rattle.layout.specs.declared.Table.{Table}
use Rattle.layout.specs.Contents.{rect}
use Rattle.layout.specs.Measure.{rows_of, cols_of, delay_of}
use Rattle.rule.specs.Sums.{Image, covered, column_sum, window_sum, cut_sum, scaled_sum}
use Rattle.rule.specs.Pixels.{cut_value, pixel_of}

-- a covered row is at most p + lead
pub covered_most : (d : Rect) (p : ℤ) (i h : ℕ) → i < rows_of d → pos_part d.leadrow ≤ h → covered p d.trailrow i ≤ℤ (p +ℤ pos h)
unfolding covered rows_of
covered_most d p i h l m =
    let z = diff_parts p in
    let e = diff_pos_part (diff_minus (diff_parts d.leadrow) (diff_parts d.trailrow)) in
    diff_le (diff_add (diff_add z (diff_parts d.trailrow)) (diff_pos (suc i))) (diff_add z (diff_pos h)) (omega arith)

-- a lead row is at most the delay
pub lead_most : (t : Table) (k : ℕ) → k < t.count → pos_part (rect t k).leadrow ≤ delay_of t
unfolding delay_of
lead_most t k l = le-largest t.count (λ k. pos_part (rect t k).leadrow) k l

-- scans that agree on a rectangle's rows have the same column sums
pub column_same :
    (t : Table) (d : Rect) (x y : Image) (r : ℤ) → ((i : ℕ) → i < rows_of d → (j : ℤ) → x (covered r d.trailrow i) j ≡ y (covered r d.trailrow i) j)
    → (j : ℤ) → column_sum t x d r j ≡ column_sum t y d r j
unfolding column_sum
column_same t d x y r h j = sum_cong (rows_of d) (λ i l. ap (λ s. s / 2 ^ t.q1) (h i l j))

-- scans with the same column sums have the same pixels
pub pixel_same :
    (t : Table) (x y : Image) (r c : ℤ) → ((k : ℕ) → k < t.count → (j : ℤ) → column_sum t x (rect t k) r j ≡ column_sum t y (rect t k) r j)
    → pixel_of t x r c ≡ pixel_of t y r c
unfolding pixel_of cut_value scaled_sum cut_sum window_sum
pixel_same t x y r c h =
    ap (λ v. floor_div v t.t) (sum_ℤ_cong t.count (λ k l.
    ap (λ s. (rect t k).weight *ℤ pos (s / 2 ^ t.q3 * 2 ^ (t.q1 + t.q2 + t.q3)))
    (sum_cong (cols_of (rect t k)) (λ j m. ap (λ s. s / 2 ^ t.q2) (h k l _)))))

-- P3: a pixel of row r depends on the rows up to r + D only
pub pixel_depends :
    (t : Table) (x y : Image) (r c : ℤ) → ((i j : ℤ) → i ≤ℤ (r +ℤ pos (delay_of t)) → x i j ≡ y i j) → pixel_of t x r c ≡ pixel_of t y r c
pixel_depends t x y r c h =
    pixel_same t x y r c (λ k l. column_same t (rect t k) x y r (λ i m j. h _ j (covered_most (rect t k) r i (delay_of t) m (lead_most t k l))))
