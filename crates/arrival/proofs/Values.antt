-- How large the sums of an arrival are that passes question 19.
-- Assumes nothing.
use Rattle.std.proofs.Common.{ℕ, ◌+◌, ◌-◌, ◌*◌, ◌/◌, ◌^◌, ◌≤◌, ◌<◌, zero-le, le_trans, mul-le-mul_left, mul-le-mul_right, div-mul-le_self, arith, ◌≡◌, subst, Bool, true, false, cond, T, ltb, ltb→lt, ℤ, pos, negsuc, pow-add}
use Rattle.std.proofs.Math.Pow.{shr_mono, ones_split}
use Rattle.arith.specs.All.{all}
use Rattle.arith.proofs.Sums.{sum_bound}
use Rattle.layout.specs.declared.Rect.{Rect}
use Rattle.layout.specs.declared.Table.{Table}
use Rattle.layout.specs.Contents.{rect}
use Rattle.layout.specs.Measure.{rows_of, cols_of}
use Rattle.rule.specs.Sums.{covered}
use Rattle.arrival.specs.Arrivals.{Arrival, new_sum, sum_most, sum_good, line_at, window_at, scaled_at}
use Rattle.arrival.proofs.Carries.{good_at_lem}

-- n quotients by q, their sum truncated by r, scaled back
pub cut_le : (w n m a p q r : ℕ) → w ≤ n * (m / q) → m * p ≤ a → w / r * (p * q * r) ≤ n * a
cut_le w n m a p q r h l =
    let x = mul-le-mul_right (p * q) (le_trans (div-mul-le_self w r) h) in
    let y = mul-le-mul_left n (le_trans (mul-le-mul_right p (div-mul-le_self m q)) l) in
    omega arith

-- M·(2^(b - q1) - 1), scaled back, is at most M·(2^b - 1)
most_scaled : (t : Table) (d : Rect) → t.q1 ≤ t.b → sum_most t d * 2 ^ t.q1 ≤ rows_of d * (2 ^ t.b - 1)
unfolding sum_most
most_scaled t d h =
    let e : t.b - t.q1 + t.q1 ≡ t.b = omega arith in
    let o = ones_split (t.b - t.q1) t.q1 in
    let m : (2 ^ (t.b - t.q1) - 1) * 2 ^ t.q1 ≤ 2 ^ t.b - 1 = subst (λ n. (2 ^ (t.b - t.q1) - 1) * 2 ^ t.q1 ≤ 2 ^ n - 1) e (omega arith) in
    let p = mul-le-mul_left (rows_of d) m in
    omega arith

pub line_most_lem : (v : Arrival) (k : ℕ) → T (all v.width (sum_good v k)) → (j : ℤ) → line_at v k j ≤ sum_most v.table (rect v.table k)
unfolding line_at
line_most_lem v k g (negsuc j) = zero-le
line_most_lem v k g (pos j) = go (ltb j v.width) (ltb→lt j v.width)
  where
    go : (b : Bool) → (T b → j < v.width) → cond b (new_sum v k j) 0 ≤ sum_most v.table (rect v.table k)
    go true f = (good_at_lem v k g j (f tt)).1
    go false f = zero-le

pub scaled_most :
    (v : Arrival) (k c : ℕ) → v.table.q1 ≤ v.table.b → T (all v.width (sum_good v k))
    → scaled_at v k c ≤ rows_of (rect v.table k) * cols_of (rect v.table k) * (2 ^ v.table.b - 1)
unfolding scaled_at window_at
scaled_most v k c h g =
    let t = v.table in
    let d = rect t k in
    let s =
    sum_bound (cols_of d) (sum_most t d / 2 ^ t.q2) {f = λ j. line_at v k (covered (pos c) d.trailcol j) / 2 ^ t.q2}
    (λ j l. shr_mono t.q2 (line_most_lem v k g _)) in
    let x =
    cut_le (window_at v k c) (cols_of d) (sum_most t d) (rows_of d * (2 ^ t.b - 1)) (2 ^ t.q1) (2 ^ t.q2) (2 ^ t.q3) s (most_scaled t d h) in
    rw (pow-add 2 (t.q1 + t.q2) t.q3, pow-add 2 t.q1 t.q2) (omega arith)
