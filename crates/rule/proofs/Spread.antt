-- A full sum, and a full value, by the weight grid: spread over all 31 by 31 offsets.
-- Assumes nothing.
use Rattle.std.proofs.Common.{ℕ, suc, ◌+◌, ◌-◌, ◌*◌, ◌≤◌, ◌<◌, arith, ◌≡◌, refl, sym, ap, ap₂, ◌∙◌, cond, ◌&&◌, leb, ltb, ℤ, pos, ◌+ℤ◌, ◌-ℤ◌, ◌*ℤ◌, lt-ltb, le-ltb, le-leb}
use Rattle.std.proofs.lemmas.Bool.{lt-leb}
use Rattle.arith.specs.Part.{pos_part, neg_part}
use Rattle.arith.specs.Sum.{sum, sum_ℤ}
use Rattle.arith.proofs.Ints.{diff_parts, diff_pos, diff_sub, diff_minus, diff_add, diff_eq, diff_scale, diff_sum, diff_pos_part, diff_le_z, diff_lt_z}
use Rattle.arith.proofs.Sums.{sum_cong, sum_zero, sum_split, sum_scale, sum_swap}
use Rattle.layout.specs.declared.Rect.{Rect}
use Rattle.layout.specs.Measure.{rows_of, cols_of}
use Rattle.grid.specs.Grid.{offset, covers, factor, grid_at}
use Rattle.grid.proofs.Entries.{laid, grid_parts, on_axis, factor_axes}
use Rattle.limits.proofs.Bounds.{Edges, extent, RectBounds}
use Rattle.rule.specs.Sums.{Image, covered, full_sum}

-- ---- one axis, whose covered places are each taken h times, by their position from the trail: 1, 2, ..

module _ (h : ℕ → ℕ) {lead trail : ℤ} (e : Edges lead trail) where
  -- how often offset a is taken
  abbrev taken : (a : ℕ) → ℕ
  taken a = cond (covers lead trail (offset a)) (h (pos_part (offset a -ℤ trail))) 0

  raised : (a : ℕ) → taken a ≡ cond (ltb (e.trail + 15) (a + 16) && leb (a + 16) (e.lead + 15)) (h (a + 16 - (15 + e.trail))) 0
  unfolding covers
  raised a =
      rw (diff_lt_z e.trail_is (diff_sub a 15), diff_le_z (diff_sub a 15) e.lead_is, diff_pos_part (diff_minus (diff_sub a 15) e.trail_is))
      refl

  before : (a : ℕ) → a < e.trail → taken a ≡ 0
  before a l = rw (raised a, le-ltb (e.trail + 15) (a + 16) (omega arith)) refl

  between : (i : ℕ) → e.trail + i < e.lead → taken (e.trail + i) ≡ h (suc i)
  between i l =
      let n : e.trail + i + 16 - (15 + e.trail) ≡ suc i = omega arith in
      rw (raised (e.trail + i), lt-ltb (e.trail + 15) (e.trail + i + 16) (omega arith), le-leb (e.trail + i + 16) (e.lead + 15) (omega arith))
      (ap h n)

  after : (a : ℕ) → e.lead ≤ a → taken a ≡ 0
  after a l =
      let t = e.above in
      rw (raised a, lt-ltb (e.trail + 15) (a + 16) (omega arith), lt-leb (a + 16) (e.lead + 15) (omega arith)) refl

  place : (p : ℤ) (i : ℕ) → covered p trail i ≡ p +ℤ offset (e.trail + i)
  unfolding covered
  place p i =
      let q = diff_parts p in
      diff_eq (diff_add (diff_add q e.trail_is) (diff_pos (suc i))) (diff_add q (diff_sub (e.trail + i) 15)) (omega arith)

  -- a sum over the covered places of an axis, over all 31 offsets
  pub axis_spread : (p : ℤ) (g : ℤ → ℕ) → sum (pos_part (lead -ℤ trail)) (λ i. h (suc i) * g (covered p trail i))
      ≡ sum 31 (λ a. taken a * g (p +ℤ offset a))
  axis_spread p g =
      let n = pos_part (lead -ℤ trail) in
      let x = extent e in
      let t = e.above in
      let m = e.most in
      let f : ℕ → ℕ = λ a. taken a * g (p +ℤ offset a) in
      let s : 31 ≡ e.trail + (n + (31 - e.lead)) = omega arith in
      let u = sum_split e.trail (n + (31 - e.lead)) f in
      let v = sum_split n (31 - e.lead) (λ i. f (e.trail + i)) in
      let z : sum e.trail f ≡ 0 = sum_zero e.trail (λ a l. ap (λ o. o * g (p +ℤ offset a)) (before a l) ∙ omega arith) in
      let y : sum (31 - e.lead) (λ j. f (e.trail + (n + j))) ≡ 0 =
      sum_zero (31 - e.lead) (λ j l. ap (λ o. o * g (p +ℤ offset (e.trail + (n + j)))) (after (e.trail + (n + j)) (omega arith)) ∙ omega arith) in
      let w : sum n (λ i. f (e.trail + i)) ≡ sum n (λ i. h (suc i) * g (covered p trail i)) =
      sum_cong n (λ i l. ap₂ ◌*◌ (between i (omega arith)) (ap g (sym (place p i)))) in
      sym (ap (λ k. sum k f) s ∙ u ∙ omega arith)

-- where each is taken once
axis_once : {lead trail : ℤ} → Edges lead trail → (p : ℤ) (g : ℤ → ℕ)
    → sum (pos_part (lead -ℤ trail)) (λ i. g (covered p trail i)) ≡ sum 31 (λ a. on_axis lead trail a * g (p +ℤ offset a))
axis_once {lead} {trail} e p g = sum_cong (pos_part (lead -ℤ trail)) (λ i l. once (g (covered p trail i))) ∙ axis_spread (λ i. 1) e p g
  where
    once : (a : ℕ) → a ≡ 1 * a
    once a = omega arith

-- ---- one rectangle, on any image

pub full_spread : (x : Image) (d : Rect) → RectBounds d → (r c : ℤ)
    → full_sum x d r c ≡ sum 31 (λ a. sum 31 (λ b. factor d a b * x (r +ℤ offset a) (c +ℤ offset b)))
unfolding full_sum rows_of cols_of
full_spread x d e r c =
    sum_swap (cols_of d) (rows_of d) (λ j i. x (covered r d.trailrow i) (covered c d.trailcol j))
    ∙ axis_once e.row r (λ z. sum (cols_of d) (λ j. x z (covered c d.trailcol j)))
    ∙ sum_cong 31 (λ a l.
    ap (λ s. on_axis d.leadrow d.trailrow a * s) (axis_once e.col c (x (r +ℤ offset a)))
    ∙ sym (sum_scale 31 (on_axis d.leadrow d.trailrow a) (λ b. on_axis d.leadcol d.trailcol b * x (r +ℤ offset a) (c +ℤ offset b)))
    ∙ sum_cong 31 (λ b m.
    regroup (on_axis d.leadrow d.trailrow a) (on_axis d.leadcol d.trailcol b) (x (r +ℤ offset a) (c +ℤ offset b))
    ∙ ap (λ k. k * x (r +ℤ offset a) (c +ℤ offset b)) (sym (factor_axes d a b))))
  where
    regroup : (a b c : ℕ) → a * (b * c) ≡ a * b * c
    regroup a b c = omega arith

-- ---- all rectangles

-- full sums under one part of the weights
laid_spread : (part : ℤ → ℕ) (n : ℕ) (f : ℕ → Rect) → ((k : ℕ) → k < n → RectBounds (f k)) → (x : Image) (r c : ℤ)
    → sum n (λ k. part (f k).weight * full_sum x (f k) r c) ≡ sum 31 (λ a. sum 31 (λ b. laid part n f a b * x (r +ℤ offset a) (c +ℤ offset b)))
laid_spread part n f e x r c =
    sum_cong n (λ k l. ap (λ s. p k * s) (full_spread x (f k) (e k l) r c) ∙ sym (sum_scale 31 (p k) (λ a. sum 31 (λ b. factor (f k) a b * y a b))))
    ∙ sum_swap n 31 (λ k a. p k * sum 31 (λ b. factor (f k) a b * y a b))
    ∙ sum_cong 31 (λ a l.
    sum_cong n (λ k m. sym (sum_scale 31 (p k) (λ b. factor (f k) a b * y a b)))
    ∙ sum_swap n 31 (λ k b. p k * (factor (f k) a b * y a b))
    ∙ sum_cong 31 (λ b m. collect (λ k. factor (f k) a b) (y a b)))
  where
    p : ℕ → ℕ
    p k = part (f k).weight

    y : ℕ → ℕ → ℕ
    y a b = x (r +ℤ offset a) (c +ℤ offset b)

    turn : (a b c : ℕ) → a * (b * c) ≡ c * (a * b)
    turn a b c = omega arith

    flip : (a b : ℕ) → a * b ≡ b * a
    flip a b = omega arith

    collect : (q : ℕ → ℕ) (z : ℕ) → sum n (λ k. p k * (q k * z)) ≡ sum n (λ k. p k * q k) * z
    collect q z = sum_cong n (λ k l. turn (p k) (q k) z) ∙ sum_scale n z (λ k. p k * q k) ∙ flip z (sum n (λ k. p k * q k))

-- M104-2: a weighted sum of full sums is the sum over all offsets of entry times sample
pub value_grid : (n : ℕ) (f : ℕ → Rect) → ((k : ℕ) → k < n → RectBounds (f k)) → (x : Image) (r c : ℤ)
    → sum_ℤ n (λ k. (f k).weight *ℤ pos (full_sum x (f k) r c)) ≡ sum_ℤ 31 (λ a. sum_ℤ 31 (λ b. grid_at n f a b *ℤ pos (x (r +ℤ offset a) (c +ℤ offset b))))
value_grid n f e x r c =
    diff_eq (diff_sum n (λ k l. diff_scale (full_sum x (f k) r c) (diff_parts (f k).weight)))
    (diff_sum 31 (λ a l. diff_sum 31 (λ b m. diff_scale (x (r +ℤ offset a) (c +ℤ offset b)) (grid_parts n f a b))))
    (ap₂ ◌+◌ (laid_spread pos_part n f e x r c) (sym (laid_spread neg_part n f e x r c)))
