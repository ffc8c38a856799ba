-- A place is covered exactly when it lies above the trail edge and not above the lead edge.
-- Assumes nothing.
use Rattle.std.proofs.Common.{ℕ, suc, ◌+◌, ◌-◌, ◌<◌, arith, subst, ◌↔◌, ℤ, neg_ℤ, ◌-ℤ◌}
use Rattle.arith.specs.Part.{pos_part, neg_part}
use Rattle.arith.proofs.Ints.{diff_parts, diff_pos, diff_add, diff_minus, diff_negate, diff_pos_part, diff_le, diff_lt, le_diff, lt_diff, diff_eq}
use Rattle.layout.specs.declared.Rect.{Rect}
use Rattle.layout.specs.Measure.{rows_of, cols_of}
use Rattle.rule.specs.Sums.{covered}
use Rattle.rule.specs.Cover.{IsCovered, WithinEdges, WithinOffsets, CoveredExactly}

-- the numbered places are within the edges
number_within : (p lead trail : ℤ) (i : ℕ) → i < pos_part (lead -ℤ trail) → WithinEdges p lead trail (covered p trail i)
unfolding covered
number_within p lead trail i h =
    let a = diff_add (diff_parts p) (diff_parts trail) in
    let b = diff_add a (diff_pos (suc i)) in
    let e = diff_pos_part (diff_minus (diff_parts lead) (diff_parts trail)) in
    record { above_trail = diff_lt a b (omega arith); to_lead = diff_le b (diff_add (diff_parts p) (diff_parts lead)) (omega arith) }

-- a place within the edges has a number
within_number : (p lead trail z : ℤ) → WithinEdges p lead trail z → IsCovered p trail (pos_part (lead -ℤ trail)) z
unfolding covered
within_number p lead trail z w =
    let a = diff_add (diff_parts p) (diff_parts trail) in
    let e = diff_pos_part (diff_minus (diff_parts lead) (diff_parts trail)) in
    let l = lt_diff a (diff_parts z) w.above_trail in
    let m = le_diff (diff_parts z) (diff_add (diff_parts p) (diff_parts lead)) w.to_lead in
    let i : ℕ = pos_part z + (neg_part p + neg_part trail) - suc (pos_part p + pos_part trail + neg_part z) in
    record { number = i; counted = omega arith; place = diff_eq (diff_add a (diff_pos (suc i))) (diff_parts z) (omega arith) }

-- the numbered places are exactly those within the edges; where the trail is not below the lead, both are none
pub covered_within : (p lead trail z : ℤ) → IsCovered p trail (pos_part (lead -ℤ trail)) z ↔ WithinEdges p lead trail z
covered_within p lead trail z =
    ((λ c. subst (WithinEdges p lead trail) c.place (number_within p lead trail c.number c.counted)), within_number p lead trail z)

-- the rows and columns of a rectangle
pub covered_exactly : (d : Rect) (r c : ℤ) → CoveredExactly d r c
unfolding rows_of cols_of
covered_exactly d r c =
    record { rows = covered_within r d.leadrow d.trailrow; columns = covered_within c d.leadcol d.trailcol }

-- m is from γ to δ - 1 exactly when n - m lies within the edges -γ and -δ of n
offsets_within : (n γ δ m : ℤ) → WithinOffsets γ δ m ↔ WithinEdges n (neg_ℤ γ) (neg_ℤ δ) (n -ℤ m)
offsets_within n γ δ m =
    let p = diff_parts n in
    let g = diff_parts γ in
    let d = diff_parts δ in
    let q = diff_parts m in
    let z = diff_minus p q in
    let lead = diff_add p (diff_negate g) in
    let trail = diff_add p (diff_negate d) in
    let last = diff_minus d (diff_pos 1) in (
      (λ o.
          let l = le_diff g q o.least in
          let h = le_diff q last o.most in
          record { above_trail = diff_lt trail z (omega arith); to_lead = diff_le z lead (omega arith) }),
      λ w.
          let l = lt_diff trail z w.above_trail in
          let h = le_diff z lead w.to_lead in
          record { least = diff_le g q (omega arith); most = diff_le q last (omega arith) },
    )

-- source 3 of docs/RULES.md: the places n - m for m from γ to δ - 1 are those that lead -γ and trail -δ cover at n
pub covered_by_offsets : (n γ δ m : ℤ) → WithinOffsets γ δ m ↔ IsCovered n (neg_ℤ δ) (pos_part (neg_ℤ γ -ℤ neg_ℤ δ)) (n -ℤ m)
covered_by_offsets n γ δ m =
    let c = covered_within n (neg_ℤ γ) (neg_ℤ δ) (n -ℤ m) in
    let w = offsets_within n γ δ m in
    ((λ o. c.1 (w.0 o)), λ i. w.1 (c.0 i))
