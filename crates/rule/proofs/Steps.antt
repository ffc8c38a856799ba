-- The two steps of a carried sum lead to the sum of the next place, and fit its word.
-- Assumes nothing.
use Rattle.std.proofs.Common.{ℕ, ◌+◌, ◌-◌, ◌/◌, ◌^◌, ◌≤◌, ◌<◌, arith, ◌≡◌, ap, true, ℤ, pos, ◌+ℤ◌}
use Rattle.arith.proofs.Sums.{term_le_sum}
use Rattle.layout.specs.declared.Rect.{Rect}
use Rattle.layout.specs.declared.Table.{Table}
use Rattle.layout.specs.Contents.{rect}
use Rattle.layout.specs.Measure.{rows_of, cols_of}
use Rattle.limits.specs.Limits.{acceptable}
use Rattle.limits.proofs.Granted.{granted}
use Rattle.rule.specs.Sums.{Image, HasBits, covered, column_sum, window_sum}
use Rattle.rule.specs.Steps.{leaving_sample, entering_sample, column_less, column_next, leaving_column, entering_column, window_less, window_next, StepWords}
use Rattle.rule.proofs.Fitting.{column_fits, window_fits}
use Rattle.rule.proofs.Slides.{leaving_place, entering_place, column_slide, window_slide}

-- ---- the sums carried

-- the leaving term is part of the sum, so that taking it off is exact
pub leaving_sample_le : (t : Table) (x : Image) (d : Rect) (r j : ℤ) → 1 ≤ rows_of d → leaving_sample t x d r j ≤ column_sum t x d r j
unfolding leaving_sample column_sum
leaving_sample_le t x d r j h = term_le_sum (rows_of d) (λ i. x (covered r d.trailrow i) j / 2 ^ t.q1) 0 h

pub leaving_column_le : (t : Table) (x : Image) (d : Rect) (r c : ℤ) → 1 ≤ cols_of d → leaving_column t x d r c ≤ window_sum t x d r c
unfolding leaving_column window_sum
leaving_column_le t x d r c h = term_le_sum (cols_of d) (λ j. column_sum t x d r (covered c d.trailcol j) / 2 ^ t.q2) 0 h

-- both steps of a column sum lead to that of the next row
pub column_carried : (t : Table) (x : Image) (d : Rect) (r j : ℤ) → 1 ≤ rows_of d → column_next t x d r j ≡ column_sum t x d (r +ℤ pos 1) j
unfolding column_next column_less leaving_sample entering_sample
column_carried t x d r j h =
    let l = leaving_sample_le t x d r j h in
    let s = column_slide t x d r j in
    omega arith

-- both steps of a window sum lead to that of the next column
pub window_carried : (t : Table) (x : Image) (d : Rect) (r c : ℤ) → 1 ≤ cols_of d → window_next t x d r c ≡ window_sum t x d r (c +ℤ pos 1)
unfolding window_next window_less leaving_column entering_column
window_carried t x d r c h =
    let l = leaving_column_le t x d r c h in
    let s = window_slide t x d r c in
    omega arith

-- formula (2): the row that leaves lies on the trail edge of the next row, the one that enters on its lead edge
pub column_recurrence :
    (t : Table) (x : Image) (d : Rect) (r j : ℤ) → 1 ≤ rows_of d
    → column_sum t x d (r +ℤ pos 1) j
    ≡ column_sum t x d r j - x ((r +ℤ pos 1) +ℤ d.trailrow) j / 2 ^ t.q1 + x ((r +ℤ pos 1) +ℤ d.leadrow) j / 2 ^ t.q1
unfolding column_next column_less leaving_sample entering_sample rows_of
column_recurrence t x d r j h =
    let a = ap (λ z. x z j / 2 ^ t.q1) (leaving_place r d.trailrow) in
    let b = ap (λ z. x z j / 2 ^ t.q1) (entering_place r d.leadrow d.trailrow h) in
    let l = leaving_sample_le t x d r j h in
    let s = column_carried t x d r j h in
    omega arith

-- formula (3): the same of columns
pub window_recurrence :
    (t : Table) (x : Image) (d : Rect) (r c : ℤ) → 1 ≤ cols_of d
    → window_sum t x d r (c +ℤ pos 1)
    ≡ window_sum t x d r c - column_sum t x d r ((c +ℤ pos 1) +ℤ d.trailcol) / 2 ^ t.q2 + column_sum t x d r ((c +ℤ pos 1) +ℤ d.leadcol) / 2 ^ t.q2
unfolding window_next window_less leaving_column entering_column cols_of
window_recurrence t x d r c h =
    let a = ap (λ z. column_sum t x d r z / 2 ^ t.q2) (leaving_place c d.trailcol) in
    let b = ap (λ z. column_sum t x d r z / 2 ^ t.q2) (entering_place c d.leadcol d.trailcol h) in
    let l = leaving_column_le t x d r c h in
    let s = window_carried t x d r c h in
    omega arith

-- ---- the words

-- W3: on a table that loading accepts and samples of b bits, a carried sum fits its word after either step
pub steps_fit :
    (t : Table) → acceptable t ≡ true → {x : Image} → HasBits t.b x → (k : ℕ) → k < t.count → StepWords t x (rect t k)
unfolding column_less window_less
steps_fit t a {x} h k l =
    let d = rect t k in
    let b = (granted t a).bounds k l in
    record {
      column_less_fits = λ r j. let s = column_fits t a h k l r j in omega arith;
      column_next_fits = λ r j. rw (column_carried t x d r j b.rows_pos) (column_fits t a h k l (r +ℤ pos 1) j);
      window_less_fits = λ r c. let s = window_fits t a h k l r c in omega arith;
      window_next_fits = λ r c. rw (window_carried t x d r c b.cols_pos) (window_fits t a h k l r (c +ℤ pos 1));
    }
