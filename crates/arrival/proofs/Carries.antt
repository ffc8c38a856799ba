-- Column sums, updated and rolled back rectangle by rectangle.
-- Assumes nothing.
use Rattle.std.proofs.Common.{ℕ, ◌+◌, ◌-◌, ◌*◌, ◌/◌, ◌^◌, ◌≤◌, ◌<◌, arith, mul-le-mul, ◌≡◌, refl, ap, ap₂, ◌∙◌, true, cond, ◌&&◌, List, ◌++◌, T, leb, ltb, leb→le, length, get_or, drop, ℤ, pos, negsuc, pow_mono}
use Rattle.std.proofs.Math.Facts.{and_yes}
use Rattle.arith.specs.All.{all}
use Rattle.arith.specs.Tab.{grid}
use Rattle.arith.proofs.Alls.{all_at, all_cong}
use Rattle.arith.proofs.Grids.{grid_next, grid_at_lem, grid_cong, grid_own}
use Rattle.arith.proofs.Passes.{grid_rest}
use Rattle.layout.specs.declared.Rect.{Rect}
use Rattle.layout.specs.declared.Table.{Table}
use Rattle.layout.specs.Contents.{rect}
use Rattle.limits.specs.Limits.{acceptable}
use Rattle.limits.proofs.Granted.{granted}
use Rattle.arrival.specs.Arrivals.{Arrival, arriving, edge_row, cut_at, leaving, entering, stored, new_sum, sum_most, sum_good, line_at, sums_after}
use Rattle.passes.proofs.Steps.{step_exact, step_back}
use Rattle.passes.specs.Passes.{stepped}
use Rattle.arrival.specs.Rectangles.{sum_limit, updated_sum, rolled_back_sum, line_of}

-- the most that a column sum of a table within the limits can be
pub most_le : (t : Table) (k : ℕ) → acceptable t ≡ true → k < t.count → sum_most t (rect t k) ≤ sum_limit
unfolding sum_most
most_le t k e l =
    let g = granted t e in
    let m : t.b - t.q1 ≤ 12 = let b = g.bits_most in omega arith in
    let p = pow_mono m in
    let h : 2 ^ (t.b - t.q1) - 1 ≤ 4095 = omega arith in
    mul-le-mul (g.bounds k l).rows_most h

-- question 19 of one column
pub good_at_lem : (v : Arrival) (k : ℕ) → T (all v.width (sum_good v k)) → (c : ℕ) → c < v.width
    → (leaving v k c ≤ stored v k c) × (new_sum v k c ≤ sum_most v.table (rect v.table k))
unfolding sum_good
good_at_lem v k t c h =
    let g = all_at v.width (sum_good v k) t c h in
    let b = and_yes (leb (leaving v k c) (stored v k c)) (leb (new_sum v k c) (sum_most v.table (rect v.table k))) g in
    (leb→le _ _ b.0, leb→le _ _ b.1)

-- an arrival that finds other sums
abbrev pub with_sums : Arrival → List ℕ → Arrival
with_sums v sums = arriving v.table v.width v.number v.row v.samples sums

-- where the sums of the rectangles before it are changed, rectangle k finds its own as they were
module _ (v : Arrival) (k : ℕ) (f : ℕ → ℕ → ℕ) {now : List ℕ} (e : now ≡ grid k v.width f ++ drop (k * v.width) v.sums) where
  abbrev after : Arrival
  after = with_sums v now

  abbrev d : Rect
  d = rect v.table k

  same_stored : (c : ℕ) → stored after k c ≡ stored v k c
  unfolding stored
  same_stored c = ap (λ xs. get_or xs (k * v.width + c) 0) e ∙ grid_next k v.width f v.sums c

  same_new : (c : ℕ) → new_sum after k c ≡ new_sum v k c
  unfolding new_sum cut_at edge_row
  same_new c = ap (λ s. s - leaving v k c + entering v k c) (same_stored c)

  pub same_updated : (c : ℕ) → updated_sum after k c ≡ updated_sum v k c
  unfolding updated_sum cut_at edge_row
  same_updated c = ap (λ s. stepped s (leaving v k c) (entering v k c)) (same_stored c)

  pub same_back : (c : ℕ) → rolled_back_sum after k c ≡ rolled_back_sum v k c
  unfolding rolled_back_sum cut_at edge_row
  same_back c = ap (λ s. stepped s (entering v k c) (leaving v k c)) (same_stored c)

  pub same_good : all v.width (sum_good after k) ≡ all v.width (sum_good v k)
  unfolding sum_good cut_at edge_row
  same_good =
      all_cong v.width (λ c h. ap₂ (λ s n. leb (leaving v k c) s && leb n (sum_most v.table d)) (same_stored c) (same_new c))

  same_line : (j : ℤ) → line_at after k j ≡ line_at v k j
  unfolding line_at
  same_line (pos j) = ap (λ n. cond (ltb j v.width) n 0) (same_new j)
  same_line (negsuc j) = refl

  pub same_line_of : (i : ℕ) → line_of after k i ≡ line_of v k i
  unfolding line_of
  same_line_of i = ap (λ n. cond (ltb i 32) 0 (n / 2 ^ v.table.q2)) (same_line (pos (i - 32)))

-- where question 19 holds, an updated sum is the one of the rule, and the updated sums are those that an accepted arrival leaves
updated_exact : (v : Arrival) (k c : ℕ) → sum_most v.table (rect v.table k) ≤ sum_limit → T (sum_good v k c) → updated_sum v k c ≡ new_sum v k c
unfolding sum_good new_sum updated_sum
updated_exact v k c m g = step_exact (stored v k c) (leaving v k c) (entering v k c) _ (omega arith) g

pub all_updated : (v : Arrival) → acceptable v.table ≡ true → ((k : ℕ) → k < v.table.count → T (all v.width (sum_good v k)))
    → grid v.table.count v.width (updated_sum v) ++ drop (v.table.count * v.width) v.sums ≡ sums_after v
unfolding sums_after
all_updated v e good =
    ap (λ xs. xs ++ drop (v.table.count * v.width) v.sums)
    (grid_cong v.table.count v.width
    (λ k c h i. updated_exact v k c (most_le v.table k e h) (all_at v.width (sum_good v k) (good k h) c i)))

-- the updated sums of the first n rectangles, rolled back, are what they were
module _
    (v : Arrival) (n : ℕ) {now : List ℕ} (small : (i : ℕ) → get_or v.sums i 0 < 4294967296)
    (e : now ≡ grid n v.width (updated_sum v) ++ drop (n * v.width) v.sums) where
  back_at : (k c : ℕ) → k < n → c < v.width → rolled_back_sum (with_sums v now) k c ≡ get_or v.sums (k * v.width + c) 0
  unfolding updated_sum rolled_back_sum stored cut_at edge_row
  back_at k c h i =
      ap (λ s. stepped s (entering v k c) (leaving v k c))
      (ap (λ xs. get_or xs (k * v.width + c) 0) e ∙ grid_at_lem n v.width (updated_sum v) (drop (n * v.width) v.sums) 0 k c h i)
      ∙ step_back (get_or v.sums (k * v.width + c) 0) (leaving v k c) (entering v k c) (small (k * v.width + c))

  pub all_back :
      n * v.width ≤ length v.sums → grid n v.width (rolled_back_sum (with_sums v now)) ++ drop (n * v.width) now ≡ v.sums
  all_back h =
      ap₂ ◌++◌ (grid_cong n v.width back_at) (ap (drop (n * v.width)) e ∙ grid_rest n v.width (updated_sum v) v.sums)
      ∙ grid_own n v.width v.sums h
