-- The words that sums and pixels fit, on a table that loading accepts and samples of b bits.
-- Assumes nothing.
use Rattle.std.proofs.Common.{ℕ, suc, ◌+◌, ◌-◌, ◌*◌, ◌/◌, ◌^◌, ◌≤◌, ◌<◌, mul-le-mul, mul-le-mul_left, le_trans, lt_of_le_of_lt, arith, ◌≡◌, refl, sym, ap, ◌∙◌, subst, Bool, true, false, T, leb, ltb, leb→le, ltb→lt, le→leb, lt→ltb, ℤ, pos, negsuc, ◌+ℤ◌, ◌*ℤ◌, pow-add, pow_pos, pow_mono, shr_lt, lt_of_le_ones}
use Rattle.std.proofs.Math.Pow.{shr_mono, shl-shr, le_ones, suc_ones}
use Rattle.std.proofs.Math.Facts.{and_yes}
use Rattle.arith.specs.Sum.{sum, sum_ℤ}
use Rattle.arith.specs.Part.{pos_part, neg_part}
use Rattle.arith.specs.Diff.{Diff}
use Rattle.arith.specs.Floor.{floor_div}
use Rattle.arith.specs.Log.{log2up}
use Rattle.arith.specs.Twos.{fits_signed}
use Rattle.arith.proofs.Ints.{diff_parts, diff_scale, diff_sum, sum_ℤ_cong}
use Rattle.arith.proofs.Sums.{sum_bound, sum_cong, sum_mono, sum_scale}
use Rattle.arith.proofs.Words.{floor_fits_pos, floor_fits_neg}
use Rattle.arith.proofs.Logs.{log_reaches}
use Rattle.layout.specs.declared.Rect.{Rect}
use Rattle.layout.specs.declared.Table.{Table}
use Rattle.layout.specs.Contents.{contents, rect}
use Rattle.layout.specs.Measure.{rows_of, cols_of, column_word, window_word, loss_figure}
use Rattle.grid.specs.Grid.{area_sum, offset, grid_at, grid_sum}
use Rattle.limits.specs.Limits.{no_drops, extremes_fit, value_good, acceptable}
use Rattle.limits.proofs.Granted.{Granted, granted, granted_value}
use Rattle.limits.specs.Slots.{areas_fit}
use Rattle.limits.proofs.Values.{fit_unsigned, no_drops_lem, value_by}
use Rattle.rule.specs.Sums.{Image, HasBits, covered, full_sum, column_sum, window_sum, scaled_sum}
use Rattle.rule.specs.Pixels.{full_value, cut_value, pixel_of}
use Rattle.rule.proofs.Dropped.{full_window, full_dropped, dropped_most}
use Rattle.rule.proofs.Accurate.{weighted}
use Rattle.rule.proofs.Spread.{value_grid}

-- ---- sums

pub full_most : (b : ℕ) {x : Image} → HasBits b x → (d : Rect) (r c : ℤ) → full_sum x d r c ≤ rows_of d * cols_of d * (2 ^ b - 1)
unfolding full_sum
full_most b {x} h d r c =
    let s = sum_bound (cols_of d) (rows_of d * (2 ^ b - 1)) {f = λ j. sum (rows_of d) (λ i. x (covered r d.trailrow i) (covered c d.trailcol j))}
    (λ j l. sum_bound (rows_of d) (2 ^ b - 1) (λ i m. h _ _)) in
    omega arith

-- a cut sum scaled back is at most the full sum
pub scaled_le_full : (t : Table) (x : Image) (d : Rect) (r c : ℤ) → scaled_sum t x d r c ≤ full_sum x d r c
scaled_le_full t x d r c = let e = full_dropped t x d r c in omega arith

-- a cut sample of b bits has b - q bits
pub cut_most : (b q : ℕ) {s : ℕ} → q ≤ b → s ≤ 2 ^ b - 1 → s / 2 ^ q ≤ 2 ^ (b - q) - 1
cut_most b q {s} h l =
    let e : b - q + q ≡ b = omega arith in
    le_ones (b - q) (shr_lt (b - q) q (subst (λ n. s < 2 ^ n) (sym e) (lt_of_le_ones b l)))

pub column_most :
    (t : Table) {x : Image} → HasBits t.b x → t.q1 ≤ t.b → (d : Rect) (r j : ℤ)
    → column_sum t x d r j ≤ rows_of d * (2 ^ (t.b - t.q1) - 1)
unfolding column_sum
column_most t h q d r j = sum_bound (rows_of d) (2 ^ (t.b - t.q1) - 1) (λ i l. cut_most t.b t.q1 q (h _ j))

-- m samples of n bits fit n + ⟨log2 m⟩ bits
product_fits : (m n : ℕ) → m ≤ 961 → m * (2 ^ n - 1) < 2 ^ (n + log2up m)
product_fits m n l =
    let e = log_reaches m l in
    let p = mul-le-mul_left (2 ^ n - 1) e in
    let a = suc_ones n in
    let q = pow_pos (log2up m) in
    rw (pow-add 2 n (log2up m)) (let z : 2 ^ n * 2 ^ log2up m ≡ (2 ^ n - 1) * 2 ^ log2up m + 2 ^ log2up m = ap (λ y. y * 2 ^ log2up m) (sym a) ∙ omega arith in omega arith)

-- W1: a column sum before its cut fits its word
pub column_fits :
    (t : Table) → acceptable t ≡ true → {x : Image} → HasBits t.b x → (k : ℕ) → k < t.count → (r j : ℤ)
    → column_sum t x (rect t k) r j < 2 ^ column_word t (rect t k)
unfolding column_word
column_fits t a h k l r j =
    let g = granted t a in
    let q = g.q1_less in
    let m = (g.bounds k l).rows_most in
    lt_of_le_of_lt (column_most t h (omega arith) (rect t k) r j) (product_fits (rows_of (rect t k)) (t.b - t.q1) (omega arith))

-- W2: a window sum before its cut fits its word, and is 0 where that has no bits
pub window_fits :
    (t : Table) → acceptable t ≡ true → {x : Image} → HasBits t.b x → (k : ℕ) → k < t.count → (r c : ℤ)
    → window_sum t x (rect t k) r c < 2 ^ window_word t (rect t k)
unfolding window_word
window_fits t a {x} h k l r c =
    let g = granted t a in
    let d = rect t k in
    let m = mul-le-mul (g.bounds k l).rows_most (g.bounds k l).cols_most in
    let f = full_most t.b h d r c in
    let e = full_window t x d r c in
    let w = product_fits (rows_of d * cols_of d) t.b (omega arith) in
    narrow (t.b + log2up (rows_of d * cols_of d)) (t.q1 + t.q2) (window_sum t x d r c) (omega arith)
  where
    narrow : (n q s : ℕ) → 2 ^ q * s < 2 ^ n → s < 2 ^ (n - q)
    narrow n q s e =
        let m = pow_mono {i = n} {j = n - q + q} (omega arith) in
        let f : s * 2 ^ q < 2 ^ (n - q + q) = omega arith in
        subst (λ y. y < 2 ^ (n - q)) (shl-shr s q) (shr_lt (n - q) q f)

-- ---- the pixel

-- a value between two extremes, rounded down, fits where they do
between_fits :
    (w t : ℕ) {p n high low : ℕ} (v : ℤ) → Diff v p n → p ≤ high → n ≤ low → T (extremes_fit high low t w) → T (fits_signed w (floor_div v t))
between_fits w t {p} {n} {high} {low} v d h l f =
    let y = and_yes (ltb (high / 2 ^ t) (2 ^ (w - 1))) (leb low (2 ^ (w - 1 + t))) (subst T (fit_unsigned high low t w) f) in
    go v d (ltb→lt (high / 2 ^ t) (2 ^ (w - 1)) y.0) (subst (λ m. low ≤ m) (pow-add 2 (w - 1) t) (leb→le low (2 ^ (w - 1 + t)) y.1))
  where
    go : (v : ℤ) → Diff v p n → high / 2 ^ t < 2 ^ (w - 1) → low ≤ 2 ^ (w - 1) * 2 ^ t → T (fits_signed w (floor_div v t))
    go (pos a) d x y =
        let e = d.is in
        let le : a ≤ high = omega arith in
        rw (floor_fits_pos w t a) (lt→ltb (a / 2 ^ t) (2 ^ (w - 1)) (lt_of_le_of_lt (shr_mono t le) x))
    go (negsuc a) d x y =
        let e = d.is in
        rw (floor_fits_neg w t (suc a)) (le→leb (suc a) (2 ^ (w - 1) * 2 ^ t) (omega arith))

-- sums of at most M·N·(2^b - 1) each, under any weights, are at most the areas' extreme
under_areas :
    (part : ℤ → ℕ) (t : Table) (s : ℕ → ℕ) → ((k : ℕ) → k < t.count → s k ≤ rows_of (rect t k) * cols_of (rect t k) * (2 ^ t.b - 1))
    → sum t.count (λ k. part (rect t k).weight * s k) ≤ (2 ^ t.b - 1) * area_sum part t.count (rect t)
unfolding area_sum
under_areas part t s h =
    subst (λ e. sum t.count (λ k. part (rect t k).weight * s k) ≤ e)
    (sum_scale t.count (2 ^ t.b - 1) (λ k. part (rect t k).weight * (rows_of (rect t k) * cols_of (rect t k))))
    (sum_mono t.count (λ k l. let m = mul-le-mul_left (part (rect t k).weight) (h k l) in omega arith))

-- whatever such sums are, their weighted sum, divided and rounded down, fits words that the areas' extremes fit
pub areas_fit_lem :
    (t : Table) (shift word : ℕ) → T (areas_fit t shift word)
    → (s : ℕ → ℕ) → ((k : ℕ) → k < t.count → s k ≤ rows_of (rect t k) * cols_of (rect t k) * (2 ^ t.b - 1))
    → T (fits_signed word (floor_div (sum_ℤ t.count (λ k. (rect t k).weight *ℤ pos (s k))) shift))
areas_fit_lem t shift word g s h =
    between_fits word shift _ (weighted t s) (under_areas pos_part t s h) (under_areas neg_part t s h) g

-- ---- without drops

loss_none : (t : Table) → no_drops (contents t) ≡ true → (d : Rect) → loss_figure t d ≡ 0
unfolding loss_figure
loss_none t e d = let z = no_drops_lem (contents t) e in rw (z.0, z.1, z.2) (omega arith)

pub scaled_full : (t : Table) → no_drops (contents t) ≡ true → (x : Image) (d : Rect) (r c : ℤ) → scaled_sum t x d r c ≡ full_sum x d r c
scaled_full t e x d r c =
    let l = loss_none t e d in
    let m = dropped_most t x d r c in
    let f = full_dropped t x d r c in
    omega arith

pub value_no_drops : (t : Table) → no_drops (contents t) ≡ true → (x : Image) (r c : ℤ) → cut_value t x r c ≡ full_value t x r c
unfolding cut_value full_value
value_no_drops t e x r c = sum_ℤ_cong t.count (λ k l. ap (λ s. (rect t k).weight *ℤ pos s) (scaled_full t e x (rect t k) r c))

-- the cut value by the entries of the grid, each as its two parts
pub entries : (t : Table) → Granted t → no_drops (contents t) ≡ true → (x : Image) (r c : ℤ)
    → Diff (cut_value t x r c)
    (sum 31 (λ a. sum 31 (λ b. pos_part (grid_at t.count (rect t) a b) * x (r +ℤ offset a) (c +ℤ offset b))))
    (sum 31 (λ a. sum 31 (λ b. neg_part (grid_at t.count (rect t) a b) * x (r +ℤ offset a) (c +ℤ offset b))))
unfolding full_value
entries t g e x r c =
    rw (value_no_drops t e x r c, value_grid t.count (rect t) g.bounds x r c)
    (diff_sum 31 (λ a l. diff_sum 31 (λ b m. diff_scale (x (r +ℤ offset a) (c +ℤ offset b)) (diff_parts (grid_at t.count (rect t) a b)))))

-- entries times samples of b bits are at most the grid's extreme
under_grid :
    (part : ℤ → ℕ) (t : Table) {x : Image} → HasBits t.b x → (r c : ℤ)
    → sum 31 (λ a. sum 31 (λ b. part (grid_at t.count (rect t) a b) * x (r +ℤ offset a) (c +ℤ offset b)))
    ≤ (2 ^ t.b - 1) * grid_sum part t.count (rect t)
unfolding grid_sum
under_grid part t {x} h r c =
    let p : ℕ → ℕ → ℕ = λ a b. part (grid_at t.count (rect t) a b) in
    subst (λ e. sum 31 (λ a. sum 31 (λ b. p a b * x (r +ℤ offset a) (c +ℤ offset b))) ≤ e)
    (sum_cong 31 (λ a l. sum_scale 31 (2 ^ t.b - 1) (p a)) ∙ sum_scale 31 (2 ^ t.b - 1) (λ a. sum 31 (p a)))
    (sum_mono 31 (λ a l. sum_mono 31 (λ b m. let z = mul-le-mul_left (p a b) (h (r +ℤ offset a) (c +ℤ offset b)) in omega arith)))

-- ---- P2: the pixel fits the pixel word

pub value_good_fits :
    (t : Table) → Granted t → T (value_good (contents t)) → {x : Image} → HasBits t.b x → (r c : ℤ) → T (fits_signed t.w (pixel_of t x r c))
unfolding pixel_of cut_value
value_good_fits t g y {x} h r c = go (no_drops (contents t)) refl
  where
    areas : T (areas_fit t t.t t.w) → T (fits_signed t.w (floor_div (cut_value t x r c) t.t))
    areas z =
        areas_fit_lem t t.t t.w z (λ k. scaled_sum t x (rect t k) r c)
        (λ k l. le_trans (scaled_le_full t x (rect t k) r c) (full_most t.b h (rect t k) r c))

    go : (b : Bool) → no_drops (contents t) ≡ b → T (fits_signed t.w (floor_div (cut_value t x r c) t.t))
    go true e =
        between_fits t.w t.t _ (entries t g e x r c) (under_grid pos_part t h r c) (under_grid neg_part t h r c) (subst T (value_by t e) y)
    go false e = areas (subst T (value_by t e) y)

pub pixel_fits :
    (t : Table) → acceptable t ≡ true → {x : Image} → HasBits t.b x → (r c : ℤ) → T (fits_signed t.w (pixel_of t x r c))
pixel_fits t a = value_good_fits t (granted t a) (granted_value t a)
