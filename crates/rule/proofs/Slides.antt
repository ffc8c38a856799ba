-- A sum over covered places moves on by one place: the first term leaves, the one after the last enters.
-- Assumes nothing.
use Rattle.std.proofs.Common.{ℕ, suc, ◌+◌, ◌/◌, ◌^◌, ◌≤◌, arith, ◌≡◌, ap, ℤ, pos, ◌+ℤ◌, ◌-ℤ◌}
use Rattle.arith.specs.Sum.{sum}
use Rattle.arith.specs.Part.{pos_part}
use Rattle.arith.proofs.Sums.{sum_cong, sum-suc, sum_first}
use Rattle.arith.proofs.Ints.{diff_parts, diff_pos, diff_add, diff_minus, diff_pos_part, diff_eq}
use Rattle.layout.specs.declared.Rect.{Rect}
use Rattle.layout.specs.declared.Table.{Table}
use Rattle.layout.specs.Measure.{rows_of, cols_of}
use Rattle.rule.specs.Sums.{Image, covered, column_sum, window_sum}

-- the places covered from p + 1 are those covered from p, each one further
pub covered_next : (p trail : ℤ) (i : ℕ) → covered (p +ℤ pos 1) trail i ≡ covered p trail (suc i)
unfolding covered
covered_next p trail i =
    let a = diff_parts p in
    let b = diff_parts trail in
    diff_eq (diff_add (diff_add (diff_add a (diff_pos 1)) b) (diff_pos _)) (diff_add (diff_add a b) (diff_pos _)) (omega arith)

-- the first covered place lies one above the trail edge: it is the trail edge from p + 1
pub leaving_place : (p trail : ℤ) → covered p trail 0 ≡ (p +ℤ pos 1) +ℤ trail
unfolding covered
leaving_place p trail =
    let a = diff_parts p in
    let b = diff_parts trail in
    diff_eq (diff_add (diff_add a b) (diff_pos _)) (diff_add (diff_add a (diff_pos 1)) b) (omega arith)

-- the place after the last covered one is the lead edge from p + 1
pub entering_place :
    (p lead trail : ℤ) → 1 ≤ pos_part (lead -ℤ trail) → covered p trail (pos_part (lead -ℤ trail)) ≡ (p +ℤ pos 1) +ℤ lead
unfolding covered
entering_place p lead trail h =
    let a = diff_parts p in
    let e = diff_pos_part (diff_minus (diff_parts lead) (diff_parts trail)) in
    diff_eq (diff_add (diff_add a (diff_parts trail)) (diff_pos _)) (diff_add (diff_add a (diff_pos 1)) (diff_parts lead)) (omega arith)

-- what any function adds over the covered places
pub slide_any :
    (f : ℤ → ℕ) (p trail : ℤ) (n : ℕ)
    → sum n (λ i. f (covered p trail i)) + f (covered p trail n) ≡ f (covered p trail 0) + sum n (λ i. f (covered (p +ℤ pos 1) trail i))
slide_any f p trail n =
    let s = sum_cong n {f = λ i. f (covered (p +ℤ pos 1) trail i)} {g = λ i. f (covered p trail (suc i))} (λ i l. ap f (covered_next p trail i)) in
    let a = sum_first n (λ i. f (covered p trail i)) in
    let b = sum-suc n (λ i. f (covered p trail i)) in
    omega arith

-- a column sum moves down by a row
pub column_slide :
    (t : Table) (x : Image) (d : Rect) (r j : ℤ)
    → column_sum t x d r j + x (covered r d.trailrow (rows_of d)) j / 2 ^ t.q1
    ≡ x (covered r d.trailrow 0) j / 2 ^ t.q1 + column_sum t x d (r +ℤ pos 1) j
unfolding column_sum
column_slide t x d r j = slide_any (λ z. x z j / 2 ^ t.q1) r d.trailrow (rows_of d)

-- a window sum moves right by a column
pub window_slide :
    (t : Table) (x : Image) (d : Rect) (r c : ℤ)
    → window_sum t x d r c + column_sum t x d r (covered c d.trailcol (cols_of d)) / 2 ^ t.q2
    ≡ column_sum t x d r (covered c d.trailcol 0) / 2 ^ t.q2 + window_sum t x d r (c +ℤ pos 1)
unfolding window_sum
window_slide t x d r c = slide_any (λ z. column_sum t x d r z / 2 ^ t.q2) c d.trailcol (cols_of d)
