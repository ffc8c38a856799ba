-- An entry of the weight grid by the positive and by the negative weights, and a factor as a product over its two axes.
-- Assumes nothing.
use Rattle.std.proofs.Common.{List, get_or, length, min, ◌+◌, ◌-◌, ◌+ℤ◌, ◌≤◌, zero, suc, sym, ◌∙◌, arith, ℕ, ◌*◌, ◌<◌, ◌≡◌, refl, ap, Bool, true, false, cond, ◌&&◌, ℤ, pos, ◌*ℤ◌}
use Rattle.arith.specs.Diff.{Diff}
use Rattle.arith.specs.Part.{pos_part, neg_part}
use Rattle.arith.specs.Sum.{sum, sum_ℤ}
use Rattle.std.proofs.lemmas.Int.{ints}
use Rattle.std.proofs.lemmas.List.{get_or-take, length-take}
use Rattle.std.proofs.Math.ListN.{get_or-eq_default}
use Rattle.arith.proofs.Ints.{sum_ℤ-suc, diff_parts, diff_scale, diff_sum, sum_ℤ_cong}
use Rattle.arith.proofs.Sums.{sum_cong, sum_split, sum_zero}
use Rattle.layout.specs.declared.Rect.{Rect}
use Rattle.layout.specs.declared.Table.{Table}
use Rattle.layout.specs.Contents.{no_rect, rect, rects_of}
use Rattle.layout.specs.Measure.{rows_of, cols_of}
use Rattle.grid.specs.Grid.{area_sum, offset, covers, factor, grid_at, grid_sum}

-- one part of the weights, over the rectangles that cover an offset
abbrev pub laid : (part : ℤ → ℕ) → (n : ℕ) → (ℕ → Rect) → (a b : ℕ) → ℕ
laid part n f a b = sum n (λ k. part (f k).weight * factor (f k) a b)

pub grid_parts : (n : ℕ) (f : ℕ → Rect) (a b : ℕ) → Diff (grid_at n f a b) (laid pos_part n f a b) (laid neg_part n f a b)
unfolding grid_at
grid_parts n f a b = diff_sum n (λ k l. diff_scale (factor (f k) a b) (diff_parts (f k).weight))

-- 1 where an axis covers offset a, else 0
abbrev pub on_axis : (lead trail : ℤ) → (a : ℕ) → ℕ
on_axis lead trail a = cond (covers lead trail (offset a)) 1 0

pub factor_axes : (d : Rect) (a b : ℕ) → factor d a b ≡ on_axis d.leadrow d.trailrow a * on_axis d.leadcol d.trailcol b
unfolding factor
factor_axes d a b = both (covers d.leadrow d.trailrow (offset a)) (covers d.leadcol d.trailcol (offset b))
  where
    both : (x y : Bool) → cond (x && y) 1 0 ≡ cond x 1 0 * cond y 1 0
    both true true = refl
    both true false = refl
    both false true = refl
    both false false = refl

-- rectangles from the n-th on are no part of either sum
module _ (n : ℕ) {f g : ℕ → Rect} (same : (k : ℕ) → k < n → f k ≡ g k) where
  pub area_cong : (part : ℤ → ℕ) → area_sum part n f ≡ area_sum part n g
  unfolding area_sum
  area_cong part = sum_cong n (λ k h. ap (λ d. part d.weight * (rows_of d * cols_of d)) (same k h))

  pub entry_cong : (a b : ℕ) → grid_at n f a b ≡ grid_at n g a b
  unfolding grid_at
  entry_cong a b = sum_ℤ_cong n (λ k h. ap (λ d. d.weight *ℤ pos (factor d a b)) (same k h))

  pub grid_cong : (part : ℤ → ℕ) → grid_sum part n f ≡ grid_sum part n g
  unfolding grid_sum
  grid_cong part = sum_cong 31 (λ a l. sum_cong 31 (λ b m. ap part (entry_cong a b)))

-- ---- a struct's rectangles, of which those beyond its slots have no weight

sum_beyond : (m n : ℕ) (f : ℕ → ℕ) → ((k : ℕ) → m ≤ k → k < n → f k ≡ 0) → m ≤ n → sum n f ≡ sum m f
sum_beyond m n f z h =
    let e : m + (n - m) ≡ n = omega arith in
    let s = sum_split m (n - m) f in
    let y = sum_zero (n - m) {f = λ k. f (m + k)} (λ k i. z (m + k) (omega arith) (omega arith)) in
    ap (λ i. sum i f) (sym e) ∙ s ∙ omega (arith, y)

sum_ℤ_more : (m d : ℕ) (f : ℕ → ℤ) → ((k : ℕ) → m ≤ k → k < m + d → f k ≡ pos 0) → sum_ℤ (m + d) f ≡ sum_ℤ m f
sum_ℤ_more m zero f z = ap (λ i. sum_ℤ i f) (omega arith)
sum_ℤ_more m (suc d) f z =
    let e : m + suc d ≡ suc (m + d) = omega arith in
    let l : sum_ℤ (m + d) f ≡ sum_ℤ m f = sum_ℤ_more m d f (λ k i j. z k i (omega arith)) in
    let y : f (m + d) ≡ pos 0 = z (m + d) (omega arith) (omega arith) in
    ap (λ i. sum_ℤ i f) e ∙ sum_ℤ-suc (m + d) f ∙ (let g : (sum_ℤ (m + d) f +ℤ f (m + d)) ≡ sum_ℤ m f = omega (arith, ints, l, y) in g)

sum_ℤ_beyond : (m n : ℕ) (f : ℕ → ℤ) → ((k : ℕ) → m ≤ k → k < n → f k ≡ pos 0) → m ≤ n → sum_ℤ n f ≡ sum_ℤ m f
sum_ℤ_beyond m n f z h =
    let e : m + (n - m) ≡ n = omega arith in
    ap (λ i. sum_ℤ i f) (sym e) ∙ sum_ℤ_more m (n - m) f (λ k i j. z k i (omega arith))

module _ (t : Table) where
  -- what a loop over them takes
  pub taken : {rs : List Rect} (i : ℕ) → rs ≡ rects_of t → i < t.count → get_or rs i no_rect ≡ rect t i
  taken i e h = ap (λ rs. get_or rs i no_rect) e ∙ get_or-take t.count t.rects i no_rect h

  module _ {rs : List Rect} (items : rs ≡ rects_of t) (fits : length rs ≡ min t.count 16) where
    light : (k : ℕ) → min t.count 16 ≤ k → k < t.count → (rect t k).weight ≡ pos 0
    light k h l =
        let f : length (rects_of t) ≡ min t.count 16 = sym (ap length items) ∙ fits in
        let e = length-take t.count t.rects in
        ap (λ r. r.weight) (get_or-eq_default t.rects no_rect {n = k} (omega arith))

    pub area_slots : (part : ℤ → ℕ) → part (pos 0) ≡ 0 → area_sum part t.count (rect t) ≡ area_sum part (min t.count 16) (rect t)
    unfolding area_sum
    area_slots part z =
        sum_beyond (min t.count 16) t.count (λ k. part (rect t k).weight * (rows_of (rect t k) * cols_of (rect t k)))
        (λ k h l. ap (λ w. part w * (rows_of (rect t k) * cols_of (rect t k))) (light k h l) ∙ rw z (omega arith))
        (omega arith)

    pub grid_slots : (a b : ℕ) → grid_at t.count (rect t) a b ≡ grid_at (min t.count 16) (rect t) a b
    unfolding grid_at
    grid_slots a b =
        sum_ℤ_beyond (min t.count 16) t.count (λ k. (rect t k).weight *ℤ pos (factor (rect t k) a b))
        (λ k h l. ap (λ w. w *ℤ pos (factor (rect t k) a b)) (light k h l) ∙ ap pos (omega arith))
        (omega arith)
