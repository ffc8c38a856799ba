-- The cut column sums are added up; a place of the frame is a covered place of the rule.
use Rattle.std.proofs.Common.{to_z-of_z, add-one, arith, pos, ◌≡◌, refl, ap, ap₂, ◌∙◌, List, FitsSigned, w8, ℕ, ◌+◌, ◌/◌, ◌^◌, rules}
use Rattle.std.proofs.Math.Pow.{shr_le}
use Rattle.std.proofs.Math.IntN.{sub_ℕ}
use Rattle.rule.proofs.Frame.{covered_frame}
use Rattle.rule.specs.Sums.{sample_at, column_sum, window_sum}
use Rattle.layout.specs.Measure.{rows_of, cols_of}
use Rattle.layout.specs.declared.Table.{Table}
use Rattle.layout.specs.declared.Rect.{Rect}
use Rattle.arith.proofs.Sums.{sum-suc, sum_cong}
use Rattle.arith.specs.Diff.{Diff}
use Rattle.arith.specs.Sum.{sum}
use Rattle.pixel.proofs.sums.Scan.window_sum.Invariants.{column}
use Rattle.pixel.proofs.sums.Scan.window_sum.Goals as goal

-- the sum over the frame is the window sum
window :
    (t : Table) (d : Rect) (xs : List ℕ) (width r c top left m n : ℕ) → m ≡ rows_of d → n ≡ cols_of d → Diff d.trailrow top 128 → Diff d.trailcol left 128
    → sum n (column xs width (r + 1 + top) m t.q1 t.q2 (c + 1 + left)) ≡ window_sum t (sample_at width xs) d (pos r) (pos c)
unfolding window_sum column_sum
window t d xs width r c top left m n em en dr dc =
    ap (λ n. sum n (column xs width (r + 1 + top) m t.q1 t.q2 (c + 1 + left))) en
    ∙ sum_cong (cols_of d) (λ j l. ap (λ s. s / 2 ^ t.q2)
    (ap (λ m. sum m (λ i. sample_at width xs (sub_ℕ (r + 1 + top + i) 128) (sub_ℕ (c + 1 + left + j) 128) / 2 ^ t.q1)) em
    ∙ sum_cong (rows_of d) (λ i h. rw (covered_frame r i dr, covered_frame c j dc))))

pub loop-j-init : goal.loop-j-init
unfolding sum
loop-j-init c = record { so_far = refl; small = search rules }

pub loop-j-preserved : goal.loop-j-preserved
loop-j-preserved c =
    let t = c.args.t.now in
    let l = shr_le c.column_sum.result t.q2 in
    let h = c.loop-j.invariant in
    let e = ap (λ x. x / 2 ^ t.q2) c.column_sum.ensures.value in
    record { so_far = rw (add-one, sum-suc) (ap₂ ◌+◌ h.so_far e); small = (let m = h.small in let b = c.column_sum.ensures.upper_bound in search (rules, l, m, b)) }

pub returns : goal.returns
returns c =
    let a = c.args in
    let d = a.d in
    let fr : FitsSigned w8 d.trailrow = search rules in
    let fc : FitsSigned w8 d.trailcol = search rules in
    let e : c.loop-j.j ≡ c.columns-n.result = omega (arith, c.loop-j-test.false, c.loop-j.auto.j-end) in
    c.loop-j.invariant.so_far
    ∙ ap (λ n. sum n (column a.self.now.samples.now a.self.now.width (a.r + 1 + c.biased_byte.result) c.rows-m.result a.t.now.q1 a.t.now.q2 (a.c + 1 + c.biased_byte-2.result))) e
    ∙ window a.t.now d a.self.now.samples.now a.self.now.width a.r a.c _ _ _ _ c.rows-m.ensures.value c.columns-n.ensures.value
    (rw (to_z-of_z fr) at c.biased_byte.ensures.diff) (rw (to_z-of_z fc) at c.biased_byte-2.ensures.diff)
