-- The line of a rectangle's truncated column sums: its windows by place are those of the rule, and how large they are.
-- Assumes nothing.
use Rattle.std.proofs.Common.{ℕ, ◌+◌, ◌-◌, ◌*◌, ◌/◌, ◌^◌, ◌≤◌, ◌<◌, zero-le, le_trans, sub-le, mul_assoc, mul-le-mul, mul-le-mul_right, le-mul_of_pos_right, div-le_self, arith, ◌≡◌, refl, sym, ap, ◌∙◌, subst, Bool, true, false, cond, not, T, ltb, ltb→lt, nltb→le, ℤ, pos, negsuc, ◌≤ℤ◌, pow_pos, pow-add, pow_mono, lt-ltb, le-ltb}
use Rattle.std.proofs.Math.Nat.{zero-div}
use Rattle.std.proofs.Math.IntN.{sub_ℕ}
use Rattle.std.proofs.Math.Pow.{shr_mono}
use Rattle.arith.specs.All.{all}
use Rattle.arith.proofs.Ints.{diff_add, diff_le, diff_neg, diff_pos, diff_pos_part, sub_high, sub_low}
use Rattle.arith.proofs.Sums.{sum_cong, sum_bound}
use Rattle.layout.specs.declared.Rect.{Rect}
use Rattle.layout.specs.declared.Table.{Table}
use Rattle.layout.specs.Contents.{rect}
use Rattle.layout.specs.Measure.{rows_of, cols_of}
use Rattle.limits.proofs.Bounds.{Edges, extent}
use Rattle.rule.proofs.Frame.{covered_frame}
use Rattle.passes.specs.Passes.{bound_most, scaled_end}
use Rattle.arrival.specs.Arrivals.{Arrival, sum_most, sum_good, line_at, window_at}
use Rattle.arrival.specs.Rectangles.{line_of, place, window_over}
use Rattle.arrival.proofs.Values.{line_most_lem, cut_le}

-- the places of a rectangle's edges
pub lead-place : {l t : ℤ} (e : Edges l t) → place l ≡ e.lead
lead-place e = diff_pos_part (diff_add e.lead_is (diff_pos 16)) ∙ omega arith

pub trail-place : {l t : ℤ} (e : Edges l t) → place t ≡ e.trail
trail-place e = diff_pos_part (diff_add e.trail_is (diff_pos 16)) ∙ omega arith

pub lead_least : {l t : ℤ} (e : Edges l t) → negsuc 15 ≤ℤ l
lead_least e = diff_le (diff_neg 16) e.lead_is (omega arith)

pub trail_least : {l t : ℤ} (e : Edges l t) → negsuc 15 ≤ℤ t
trail_least e = diff_le (diff_neg 16) e.trail_is (omega arith)

pub lead_most : {l t : ℤ} (e : Edges l t) → place l ≤ 31
lead_most e = let p = lead-place e in let m = e.most in omega arith

pub trail_most : {l t : ℤ} (e : Edges l t) → place t ≤ 30
trail_most e = let p = trail-place e in let a = e.above in let m = e.most in omega arith

-- the lead's is as many places after the trail's as there are columns
pub reach : (d : Rect) (e : Edges d.leadcol d.trailcol) → place d.trailcol + cols_of d ≡ place d.leadcol
unfolding cols_of
reach d e = let x = extent e in let l = lead-place e in let t = trail-place e in omega arith

pub within : (d : Rect) (e : Edges d.leadcol d.trailcol) → place d.trailcol + cols_of d ≤ 31
within d e = let r = reach d e in let l = lead-place e in let m = e.most in omega arith

module _ (v : Arrival) (k : ℕ) where
  -- the first 32 places are 0
  pub line_dark : (i : ℕ) → i < 32 → line_of v k i ≡ 0
  unfolding line_of
  line_dark i h = rw (lt-ltb i 32 h)

  -- column p - 16 stands at place p + 16
  line_place : (p : ℕ) → line_of v k (p + 16) ≡ line_at v k (sub_ℕ p 16) / 2 ^ v.table.q2
  unfolding line_of line_at
  line_place p = go (ltb p 16) (ltb→lt p 16) (nltb→le p 16)
    where
      go : (c : Bool) → (T c → p < 16) → (T (not c) → 16 ≤ p) → line_of v k (p + 16) ≡ line_at v k (sub_ℕ p 16) / 2 ^ v.table.q2
      go true f g =
          let h = f tt in
          line_dark (p + 16) (omega arith) ∙ sym (ap (λ z. line_at v k z / 2 ^ v.table.q2) (sub_low p 16 h) ∙ zero-div (2 ^ v.table.q2))
      go false f g =
          let h = g tt in
          let e : p + 16 - 32 ≡ p - 16 = omega arith in
          rw (le-ltb (p + 16) 32 (omega arith), e, sub_high p 16 h) refl

  -- the windows by place are those of the rule
  pub window_at_lem : (e : Edges (rect v.table k).leadcol (rect v.table k).trailcol) (c : ℕ)
      → window_over (rect v.table k) (line_of v k) (17 + c) ≡ window_at v k c
  unfolding window_at
  window_at_lem e c =
      let t = trail-place e in
      sum_cong (cols_of (rect v.table k))
      (λ j h.
      let p : place (rect v.table k).trailcol + (17 + c) + j ≡ c + 1 + e.trail + j + 16 = omega arith in
      ap (line_of v k) p ∙ line_place (c + 1 + e.trail + j)
      ∙ ap (λ z. line_at v k z / 2 ^ v.table.q2) (sym (covered_frame c j e.trail_is)))

  -- where question 19 holds, each place is within the bound
  pub line_le : T (all v.width (sum_good v k)) → (i : ℕ) → line_of v k i ≤ sum_most v.table (rect v.table k) / 2 ^ v.table.q2
  unfolding line_of
  line_le good i = go (ltb i 32)
    where
      go : (b : Bool) → cond b 0 (line_at v k (pos (i - 32)) / 2 ^ v.table.q2) ≤ sum_most v.table (rect v.table k) / 2 ^ v.table.q2
      go true = zero-le
      go false = shr_mono v.table.q2 (line_most_lem v k good (pos (i - 32)))

-- the most that a column sum can be, scaled back
most_le : (t : Table) (d : Rect) → t.q1 < t.b → t.b ≤ 12 → rows_of d ≤ 31 → sum_most t d * 2 ^ t.q1 ≤ 126976
unfolding sum_most
most_le t d h l r =
    let e : t.b - t.q1 + t.q1 ≤ 12 = omega arith in
    let p = subst (λ x. x ≤ 4096) (pow-add 2 (t.b - t.q1) t.q1) (pow_mono e) in
    let m = mul-le-mul r (le_trans (mul-le-mul_right (2 ^ t.q1) (sub-le (2 ^ (t.b - t.q1)) 1)) p) in
    subst (λ x. x ≤ 126976) (sym (mul_assoc (rows_of d) (2 ^ (t.b - t.q1) - 1) (2 ^ t.q1))) m

-- a truncated column sum is within 2^17
pub place_le : (t : Table) (d : Rect) → t.q1 < t.b → t.b ≤ 12 → rows_of d ≤ 31 → sum_most t d / 2 ^ t.q2 ≤ bound_most
place_le t d h l r =
    let m = most_le t d h l r in
    let p = le-mul_of_pos_right (sum_most t d) (pow_pos t.q1) in
    let q = div-le_self (sum_most t d) (2 ^ t.q2) in
    omega arith

-- a truncated rectangle sum scaled back is below 2^22
pub window_le : (t : Table) (d : Rect) (line : ℕ → ℕ) (s : ℕ) → t.q1 < t.b → t.b ≤ 12 → rows_of d ≤ 31 → cols_of d ≤ 31
    → ((i : ℕ) → line i ≤ sum_most t d / 2 ^ t.q2) → window_over d line s / 2 ^ t.q3 * 2 ^ (t.q1 + t.q2 + t.q3) < scaled_end
window_le t d line s h l r n g =
    let b = sum_bound (cols_of d) (sum_most t d / 2 ^ t.q2) {f = λ j. line (place d.trailcol + s + j)} (λ j k. g _) in
    let x = cut_le (window_over d line s) (cols_of d) (sum_most t d) 126976 (2 ^ t.q1) (2 ^ t.q2) (2 ^ t.q3) b (most_le t d h l r) in
    rw (pow-add 2 (t.q1 + t.q2) t.q3, pow-add 2 t.q1 t.q2) (omega arith)
