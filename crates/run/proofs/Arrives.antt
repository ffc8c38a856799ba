-- An arrival of a run: what it finds, that it is accepted, and what it leaves.
-- Assumes nothing.
use Prim.Native.Nat.{ℕ, suc, ◌+◌, ◌-◌, ◌*◌, ◌/◌, ◌^◌, ◌≤◌, ◌<◌}
use native.Mathlib.Nat.{zero-div}
use native.Mathlib.Omega.{arith}
use mathlib.Core.Path.{◌≡◌, sym, ap, ◌∙◌, subst}
use mathlib.Core.Bool.{Bool, true, false, not, cond}
use lib.Dec.{T, ltb, leb, ltb→lt, nltb→le, le→leb}
use lib.IntN.{ℤ, pos, negsuc, sub_ℕ, ◌+ℤ◌, ◌-ℤ◌, ◌*ℤ◌}
use lib.ListN.{get_or, drop}
use mir.Facts.{yes_and}
use Rattle.arith.specs.All.{all}
use Rattle.arith.specs.Diff.{Diff}
use Rattle.arith.specs.Floor.{floor_div}
use Rattle.arith.proofs.Alls.{all_of}
use Rattle.arith.proofs.Ints.{diff_add, diff_minus, diff_pos, diff_pos_part}
use Rattle.arith.proofs.Sums.{sum_cong, sum_zero, term_le_sum}
use Rattle.arith.proofs.Ints.{sum_ℤ_cong}
use Rattle.layout.specs.declared.Rect.{Rect}
use Rattle.layout.specs.declared.Table.{Table}
use Rattle.layout.specs.Contents.{rect}
use Rattle.layout.specs.Measure.{rows_of, cols_of, delay_of}
use Rattle.limits.specs.Limits.{acceptable}
use Rattle.limits.proofs.Bounds.{RectBounds}
use Rattle.limits.proofs.Granted.{Granted, granted}
use Rattle.rule.specs.Sums.{Image, covered, column_sum, window_sum, cut_sum, scaled_sum}
use Rattle.rule.specs.Pixels.{cut_value, pixel_of}
use Rattle.rule.proofs.Fitting.{column_most}
use Rattle.arith.proofs.Bools.{true_of}
use Rattle.arith.proofs.Grids.{grid_at_lem}
use Rattle.arrival.specs.Arrivals.{Arrival, sums_after, edge_row, cut_at, leaving, entering, stored, new_sum, sum_most, sum_good, line_at, window_at, scaled_at, pixel_at}
use Rattle.rule.proofs.Depends.{lead_most}
use Rattle.arrival.proofs.Delays.{delay_most}
use Rattle.rule.proofs.Slides.{column_slide}
use Rattle.ring.specs.Ring.{Kept}
use Rattle.ring.proofs.Kept.{row_is}
use Rattle.model.proofs.Rows.{InFrame}
use Rattle.model.proofs.Edges.{leaving_row, entering_row, due_row, next_row}

-- arrival a of a run over x: the row is x's, and the stores hold what the arrivals before left
pub record Finds (x : Image) (v : Arrival) : Type 0 where
  pub table : acceptable v.table ≡ true
  pub framed : InFrame v.width v.table.b x
  pub row : (c : ℕ) → c < v.width → get_or v.row c 0 ≡ x (pos v.number) (pos c)
  pub kept : Kept v.width x v.number v.samples
  pub sums :
      (k c : ℕ) → k < v.table.count → c < v.width
      → stored v k c ≡ column_sum v.table x (rect v.table k) (sub_ℕ v.number (suc (delay_of v.table))) (pos c)

module _ (x : Image) (v : Arrival) (f : Finds x v) where
  abbrev t : Table
  t = v.table

  g : Granted t
  g = granted t f.table

  most : delay_of t ≤ 15
  most = delay_most t f.table

  -- an edge reaches one of the last 32 rows
  near :
      (edge : ℤ) (p : ℕ) → Diff edge p 16 → p ≤ delay_of t + 16 → (e : ℕ) → (pos v.number -ℤ pos (delay_of t)) +ℤ edge ≡ pos e
      → (e ≤ v.number) × (v.number ≤ e + 31)
  near edge p d h e q =
      let m = most in
      let n = (subst (λ z. Diff z (v.number + 0 + p) (0 + delay_of t + 16)) q (diff_add (diff_minus (diff_pos v.number) (diff_pos (delay_of t))) d)).is in
      (omega arith, omega arith)

  -- the cut sample that it reaches is the scan's
  cut_is : (edge : ℤ) (p : ℕ) → Diff edge p 16 → p ≤ delay_of t + 16 → (c : ℕ) → c < v.width
      → cut_at v edge c ≡ x ((pos v.number -ℤ pos (delay_of t)) +ℤ edge) (pos c) / 2 ^ t.q1
  unfolding cut_at edge_row
  cut_is edge p d h c l =
      ap (λ s. s / 2 ^ t.q1) (row_is v.width x v.number v.row v.samples (λ i c. f.framed.above i (pos c)) f.row f.kept _ (near edge p d h) c l)

  module _ (k : ℕ) (lk : k < t.count) where
    abbrev d : Rect
    d = rect t k

    b : RectBounds d
    b = g.bounds k lk

    -- the lead is no further than the delay
    lead_near : b.row.lead ≤ delay_of t + 16
    lead_near = let l = lead_most t k lk in let p = diff_pos_part b.row.lead_is in omega arith

    trail_near : b.row.trail ≤ delay_of t + 16
    trail_near = let l = lead_near in let a = b.row.above in omega arith

    abbrev pub before : ℤ
    before = sub_ℕ v.number (suc (delay_of t))

    pub leaving_is : (c : ℕ) → c < v.width → leaving v k c ≡ x (covered before d.trailrow 0) (pos c) / 2 ^ t.q1
    leaving_is c l =
        cut_is d.trailrow b.row.trail b.row.trail_is trail_near c l
        ∙ ap (λ z. x z (pos c) / 2 ^ t.q1) (sym (leaving_row v.number (delay_of t) d.trailrow))

    pub entering_is : (c : ℕ) → c < v.width → entering v k c ≡ x (covered before d.trailrow (rows_of d)) (pos c) / 2 ^ t.q1
    entering_is c l =
        cut_is d.leadrow b.row.lead b.row.lead_is lead_near c l
        ∙ ap (λ z. x z (pos c) / 2 ^ t.q1) (sym (entering_row v.number (delay_of t) d b))

    -- the leaving sample is in the stored sum
    leaving_in : (c : ℕ) → c < v.width → leaving v k c ≤ stored v k c
    unfolding column_sum
    leaving_in c l =
        let e = leaving_is c l in
        let s = f.sums k c lk l in
        let p = b.rows_pos in
        let m = term_le_sum (rows_of d) (λ i. x (covered before d.trailrow i) (pos c) / 2 ^ t.q1) 0 (omega arith) in
        rw (e, s) m

    -- the new sum is the column sum of the row that is due
    pub new_is : (c : ℕ) → c < v.width → new_sum v k c ≡ column_sum t x d (sub_ℕ v.number (delay_of t)) (pos c)
    unfolding new_sum
    new_is c l =
        let a = leaving_is c l in
        let e = entering_is c l in
        let s = f.sums k c lk l in
        let h = leaving_in c l in
        let w = column_slide t x d before (pos c) in
        let n = ap (λ z. column_sum t x d z (pos c)) (due_row v.number (delay_of t)) in
        omega arith

    -- Q5: question 19 is answered yes
    pub sum_good_lem : (c : ℕ) → c < v.width → T (sum_good v k c)
    unfolding sum_good sum_most
    sum_good_lem c l =
        let q = g.q1_less in
        let m = column_most t f.framed.bits (omega arith) d (sub_ℕ v.number (delay_of t)) (pos c) in
        yes_and (leb (leaving v k c) (stored v k c)) _ (le→leb _ _ (leaving_in c l)) (le→leb (new_sum v k c) (rows_of d * (2 ^ (t.b - t.q1) - 1)) (rw (new_is c l) m))

    -- the line of new sums is the column sums of the row, 0 outside it
    line_is : (j : ℤ) → line_at v k j ≡ column_sum t x d (sub_ℕ v.number (delay_of t)) j
    unfolding line_at column_sum
    line_is (negsuc j) = sym (sum_zero (rows_of d) (λ i h. rw (f.framed.left (covered (sub_ℕ v.number (delay_of t)) d.trailrow i) j) (zero-div (2 ^ t.q1))))
    line_is (pos j) = go (ltb j v.width) (ltb→lt j v.width) (nltb→le j v.width)
      where
        go : (q : Bool) → (T q → j < v.width) → (T (not q) → v.width ≤ j) → cond q (new_sum v k j) 0 ≡ column_sum t x d (sub_ℕ v.number (delay_of t)) (pos j)
        go true y n = new_is j (y tt)
        go false y n = sym (sum_zero (rows_of d) (λ i h. rw (f.framed.right (covered (sub_ℕ v.number (delay_of t)) d.trailrow i) j (n tt)) (zero-div (2 ^ t.q1))))

    scaled_is : (c : ℕ) → scaled_at v k c ≡ scaled_sum t x d (sub_ℕ v.number (delay_of t)) (pos c)
    unfolding scaled_at window_at scaled_sum cut_sum window_sum
    scaled_is c =
        ap (λ s. s / 2 ^ t.q3 * 2 ^ (t.q1 + t.q2 + t.q3))
        (sum_cong (cols_of d) (λ j h. ap (λ s. s / 2 ^ t.q2) (line_is (covered (pos c) d.trailcol j))))

  -- Q3, one arrival: the pixel is the pixel rule's
  pub pixel_is : (c : ℕ) → pixel_at v c ≡ pixel_of t x (sub_ℕ v.number (delay_of t)) (pos c)
  unfolding pixel_at pixel_of cut_value
  pixel_is c = ap (λ z. floor_div z t.t) (sum_ℤ_cong t.count (λ k l. ap (λ s. (rect t k).weight *ℤ pos s) (scaled_is k l c)))

  -- question 19 of the whole arrival
  pub sums_good : all t.count (λ k. all v.width (sum_good v k)) ≡ true
  sums_good =
      true_of (all t.count (λ k. all v.width (sum_good v k)))
      (all_of t.count (λ k. all v.width (sum_good v k)) (λ k l. all_of v.width (sum_good v k) (sum_good_lem k l)))

  -- what the next arrival finds in the sum store
  pub sums_next : (k c : ℕ) → k < t.count → c < v.width
      → get_or (sums_after v) (k * v.width + c) 0 ≡ column_sum t x (rect t k) (sub_ℕ (v.number + 1) (suc (delay_of t))) (pos c)
  unfolding sums_after
  sums_next k c lk l =
      grid_at_lem t.count v.width (new_sum v) (drop (t.count * v.width) v.sums) 0 k c lk l ∙ new_is k lk c l
      ∙ ap (λ z. column_sum t x (rect t k) z (pos c)) (sym (next_row v.number (delay_of t)))
