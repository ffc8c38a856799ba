-- An arrival of a ranked scan: what it finds, that it is accepted, and what it leaves.
-- Assumes nothing.
use Prim.Native.Nat.{ℕ, suc, ◌+◌, ◌*◌, ◌^◌, ◌≤◌, ◌<◌, zero-le}
use native.Mathlib.Omega.{arith}
use mathlib.Core.Path.{◌≡◌, refl, sym, ap, ◌∙◌, subst}
use mathlib.Core.Bool.{Bool, true, false, not, cond, ◌&&◌}
use lib.Dec.{T, ltb, leb, eqb, ltb→lt, nltb→le, le→leb, lt→ltb}
use lib.IntN.{ℤ, pos, negsuc, sub_ℕ}
use lib.ListN.{get_or, drop}
use lib.Pow.{pow_pos, pow_mono}
use mir.Facts.{yes_and}
use borrow.Author.Tests.{lt-ltb, le-ltb, eq-eqb}
use Rattle.arith.specs.All.{all}
use Rattle.arith.specs.Diff.{Diff}
use Rattle.arith.proofs.Alls.{all_of}
use Rattle.arith.proofs.Bools.{true_of}
use Rattle.arith.proofs.Grids.{grid_at_lem}
use Rattle.arith.proofs.Ints.{diff_add, diff_minus, diff_pos, diff_pos_part}
use Rattle.arith.proofs.Sums.{sum_cong, sum_zero, sum_bound, term_le_sum}
use Rattle.layout.specs.declared.Rect.{Rect}
use Rattle.layout.specs.Measure.{rows_of, cols_of}
use Rattle.limits.specs.Limits.{rect_good}
use Rattle.limits.proofs.Bounds.{RectBounds, rect_bounds}
use Rattle.rule.specs.Sums.{Image, covered}
use Rattle.rule.proofs.Slides.{slide_any}
use Rattle.ring.specs.Ring.{row_at, Kept}
use Rattle.ring.proofs.Kept.{row_is}
use Rattle.model.proofs.Rows.{InFrame}
use Rattle.model.proofs.Edges.{leaving_row, entering_row, due_row, next_row}
use Rattle.levels.specs.Levels.{count_at, one, moved_count, column_good}
use Rattle.levels.proofs.Ranks.{ranked_cong}
use Rattle.histograms.specs.declared.Arrival.{Arrival}
use Rattle.histograms.specs.Windows.{column_count, window_count}
use Rattle.histograms.specs.Arrivals.{Counting, delay_by, edge_row, is_given, times_at, edge_at, good_at, new_count, counts_after, shade_at}
use Rattle.histograms.proofs.Counts.{delay_most}
use Rattle.rankrun.specs.Rule.{Strip, inside, count_if, column_tally, tally, shade_of}
use Rattle.rankrun.proofs.Shades.{rule_by_counts}

-- ---- the counts of a column

-- at most M
column_most : (s : Strip) (d : Rect) (test : ℕ → Bool) (r j : ℤ) → column_tally s d test r j ≤ rows_of d
unfolding column_tally count_if
column_most s d test r j =
    let m = sum_bound (rows_of d) 1 (λ i l. bit (inside s (covered r d.trailrow i) j && test (s.image (covered r d.trailrow i) j))) in
    omega arith
  where
    bit : (p : Bool) → cond p 1 0 ≤ 1
    bit true = omega arith
    bit false = omega arith

-- none in a scan of no rows
pub column_none : (s : Strip) (d : Rect) (test : ℕ → Bool) (r j : ℤ) → s.height ≡ 0 → column_tally s d test r j ≡ 0
unfolding column_tally count_if inside
column_none s d test r j h = sum_zero (rows_of d) (λ i l. at (covered r d.trailrow i) j)
  where
    at : (z j : ℤ) → ◌≡◌ {A = ℕ} (cond (inside s z j && test (s.image z j)) 1 0) 0
    at (pos i) (pos j) = rw (h, le-ltb i 0 zero-le) refl
    at (pos i) (negsuc j) = refl
    at (negsuc i) j = refl

-- and none outside the row
column_left : (s : Strip) (d : Rect) (test : ℕ → Bool) (r : ℤ) (j : ℕ) → column_tally s d test r (negsuc j) ≡ 0
unfolding column_tally count_if inside
column_left s d test r j = sum_zero (rows_of d) (λ i l. at (covered r d.trailrow i))
  where
    at : (z : ℤ) → ◌≡◌ {A = ℕ} (cond (inside s z (negsuc j) && test (s.image z (negsuc j))) 1 0) 0
    at (pos i) = refl
    at (negsuc i) = refl

column_right : (s : Strip) (d : Rect) (test : ℕ → Bool) (r : ℤ) (j : ℕ) → s.width ≤ j → column_tally s d test r (pos j) ≡ 0
unfolding column_tally count_if inside
column_right s d test r j h = sum_zero (rows_of d) (λ i l. at (covered r d.trailrow i))
  where
    at : (z : ℤ) → ◌≡◌ {A = ℕ} (cond (inside s z (pos j) && test (s.image z (pos j))) 1 0) 0
    at (pos i) = rw (le-ltb j s.width h) (by (ltb i s.height))
      where
        by : (g : Bool) → ◌≡◌ {A = ℕ} (cond ((g && false) && test (s.image (pos i) (pos j))) 1 0) 0
        by true = refl
        by false = refl
    at (negsuc i) = refl

-- ---- one arrival

-- the scan of the rows given at an arrival
abbrev pub strip_at : Image → Counting → Strip
strip_at x v = record { height = v.what.given; width = v.what.width; image = x }

-- arrival a of a scan of x: the row is x's, and the stores hold what the arrivals before left
pub record Finds (x : Image) (v : Counting) : Type 0 where
  pub rect : rect_good v.what.rect ≡ true
  pub bits_most : v.what.b ≤ 8
  pub framed : InFrame v.what.width v.what.b x
  pub row : (c : ℕ) → c < v.what.width → get_or v.row c 0 ≡ x (pos v.what.number) (pos c)
  pub kept : Kept v.what.width x v.what.number v.samples
  pub counted :
      (c u : ℕ) → c < v.what.width → u < 2 ^ v.what.b
      → count_at v.counts c u ≡ column_tally (strip_at x v) v.what.rect (λ y. eqb y u) (sub_ℕ v.what.number (suc (delay_by v.what.rect))) (pos c)

none : (y : Bool) → ◌≡◌ {A = ℕ} (cond y 0 0) 0
none true = refl
none false = refl

-- a row that is given counts where a place of it is inside, and one that is passed over counts nothing
counts_once : (s : Strip) (c : ℕ) → c < s.width → (z : ℤ) (u : ℕ)
    → one (cond (is_given s.height z) 1 0) (cond (is_given s.height z) (s.image z (pos c)) 0) u ≡ count_if s (λ y. eqb y u) z (pos c)
unfolding is_given count_if inside
counts_once s c l (negsuc e) u = none (eqb 0 u)
counts_once s c l (pos e) u = rw (lt-ltb c s.width l) (by (ltb e s.height))
  where
    by : (g : Bool) → one (cond g 1 0) (cond g (s.image (pos e) (pos c)) 0) u ≡ cond ((g && true) && eqb (s.image (pos e) (pos c)) u) 1 0
    by true = refl
    by false = none (eqb 0 u)

module _ (x : Image) (v : Counting) (f : Finds x v) where
  abbrev a : Arrival
  a = v.what

  abbrev d : Rect
  d = a.rect

  abbrev s : Strip
  s = strip_at x v

  abbrev delay : ℕ
  delay = delay_by d

  b : RectBounds d
  b = rect_bounds d (subst T (sym f.rect) tt)

  -- an edge reaches one of the last 32 rows
  near : (edge : ℤ) (p : ℕ) → Diff edge p 16 → p ≤ delay + 16 → (e : ℕ) → edge_row a edge ≡ pos e → (e ≤ a.number) × (a.number ≤ e + 31)
  unfolding edge_row
  near edge p w h e q =
      let m = delay_most d f.rect in
      let n = (subst (λ z. Diff z (a.number + 0 + p) (0 + delay + 16)) q (diff_add (diff_minus (diff_pos a.number) (diff_pos delay)) w)).is in
      (omega arith, omega arith)

  -- an edge within the limits, and a column of the row
  module _ (edge : ℤ) (p : ℕ) (w : Diff edge p 16) (h : p ≤ delay + 16) (c : ℕ) (l : c < a.width) where
    reached : row_at a.width a.number v.row v.samples (edge_row a edge) c ≡ x (edge_row a edge) (pos c)
    reached = row_is a.width x a.number v.row v.samples (λ i c. f.framed.above i (pos c)) f.row f.kept (edge_row a edge) (near edge p w h) c l

    -- how often the row that it reaches counts at level u, by the scan
    edge_is : (u : ℕ) → one (times_at a edge) (edge_at v edge c) u ≡ count_if s (λ y. eqb y u) (edge_row a edge) (pos c)
    unfolding times_at edge_at
    edge_is u = rw reached (counts_once s c l (edge_row a edge) u)

    -- it is a level
    edge_level : edge_at v edge c < 2 ^ a.b
    unfolding edge_at
    edge_level = rw reached (by (is_given a.given (edge_row a edge)))
      where
        by : (g : Bool) → cond g (x (edge_row a edge) (pos c)) 0 < 2 ^ a.b
        by true = let m = f.framed.bits (edge_row a edge) (pos c) in let n = pow_pos a.b in omega arith
        by false = pow_pos a.b

  lead_near : b.row.lead ≤ delay + 16
  lead_near = let p = diff_pos_part b.row.lead_is in omega arith

  trail_near : b.row.trail ≤ delay + 16
  trail_near = let l = lead_near in let w = b.row.above in omega arith

  abbrev before : ℤ
  before = sub_ℕ a.number (suc delay)

  abbrev due : ℤ
  due = sub_ℕ a.number delay

  module _ (c : ℕ) (l : c < a.width) where
    leaving_is : (u : ℕ) → one (times_at a d.trailrow) (edge_at v d.trailrow c) u ≡ count_if s (λ y. eqb y u) (covered before d.trailrow 0) (pos c)
    unfolding edge_row
    leaving_is u =
        edge_is d.trailrow b.row.trail b.row.trail_is trail_near c l u
        ∙ ap (λ z. count_if s (λ y. eqb y u) z (pos c)) (sym (leaving_row a.number delay d.trailrow))

    entering_is : (u : ℕ) → one (times_at a d.leadrow) (edge_at v d.leadrow c) u ≡ count_if s (λ y. eqb y u) (covered before d.trailrow (rows_of d)) (pos c)
    unfolding edge_row
    entering_is u =
        edge_is d.leadrow b.row.lead b.row.lead_is lead_near c l u
        ∙ ap (λ z. count_if s (λ y. eqb y u) z (pos c)) (sym (entering_row a.number delay d b))

    -- the leaving sample is among those counted
    leaving_in : (u : ℕ) → u < 2 ^ a.b → one (times_at a d.trailrow) (edge_at v d.trailrow c) u ≤ count_at v.counts c u
    unfolding column_tally
    leaving_in u h =
        let p = b.rows_pos in
        let m = term_le_sum (rows_of d) (λ i. count_if s (λ y. eqb y u) (covered before d.trailrow i) (pos c)) 0 (omega arith) in
        rw (leaving_is u, f.counted c u l h) m

    -- the new counts are those of the row that is due
    new_is : (u : ℕ) → u < 2 ^ a.b → new_count v c u ≡ column_tally s d (λ y. eqb y u) due (pos c)
    unfolding new_count moved_count column_tally
    new_is u h =
        let o = leaving_is u in
        let n = entering_is u in
        let k = f.counted c u l h in
        let m = leaving_in u h in
        let w = slide_any (λ z. count_if s (λ y. eqb y u) z (pos c)) before d.trailrow (rows_of d) in
        let e = ap (λ z. column_tally s d (λ y. eqb y u) z (pos c)) (due_row a.number delay) in
        omega arith

    -- question 19 is answered yes
    column_good_lem : T (good_at v c)
    unfolding good_at column_good new_count
    column_good_lem =
        let x = edge_at v d.trailrow c in
        let y = edge_at v d.leadrow c in
        let n = 2 ^ a.b in
        let i = edge_level d.trailrow b.row.trail b.row.trail_is trail_near c l in
        let j = edge_level d.leadrow b.row.lead b.row.lead_is lead_near c l in
        yes_and (ltb x n) _ (lt→ltb x n i)
        (yes_and (ltb y n) _ (lt→ltb y n j)
        (yes_and (leb (times_at a d.trailrow) (count_at v.counts c x)) _ (le→leb _ _ (own i)) (all_of n _ (λ u h. le→leb _ _ (within u h)))))
      where
        -- a sample that leaves counts at its own level
        own : edge_at v d.trailrow c < 2 ^ a.b → times_at a d.trailrow ≤ count_at v.counts c (edge_at v d.trailrow c)
        own h = rw (eq-eqb (edge_at v d.trailrow c) (edge_at v d.trailrow c) refl) at (leaving_in (edge_at v d.trailrow c) h)

        within : (u : ℕ) → u < 2 ^ a.b → new_count v c u ≤ rows_of d
        within u h = rw (new_is u h) (column_most s d (λ y. eqb y u) due (pos c))

    -- what is left in the store
    after_is : (u : ℕ) → u < 2 ^ a.b → count_at (counts_after v) c u ≡ column_tally s d (λ y. eqb y u) due (pos c)
    unfolding counts_after
    after_is u h =
        let m = pow_mono f.bits_most in
        grid_at_lem a.width 256 (new_count v) (drop (a.width * 256) v.counts) 0 c u l (omega arith) ∙ new_is u h

  -- question 19 of the whole arrival
  pub counts_good : all a.width (good_at v) ≡ true
  counts_good = true_of (all a.width (good_at v)) (all_of a.width (good_at v) column_good_lem)

  -- what the next arrival finds in the column counts
  pub counts_next : (c u : ℕ) → c < a.width → u < 2 ^ a.b → count_at (counts_after v) c u ≡ column_tally s d (λ y. eqb y u) (sub_ℕ (a.number + 1) (suc delay)) (pos c)
  counts_next c u l h = after_is c l u h ∙ ap (λ z. column_tally s d (λ y. eqb y u) z (pos c)) (sym (next_row a.number delay))

  -- the counts of a column inside the row, and none outside it
  line_is : (u : ℕ) → u < 2 ^ a.b → (j : ℤ) → column_count (counts_after v) a.width u j ≡ column_tally s d (λ y. eqb y u) due j
  unfolding column_count
  line_is u h (negsuc j) = sym (column_left s d (λ y. eqb y u) due j)
  line_is u h (pos j) = go (ltb j a.width) (ltb→lt j a.width) (nltb→le j a.width)
    where
      go : (q : Bool) → (T q → j < a.width) → (T (not q) → a.width ≤ j) → cond q (count_at (counts_after v) j u) 0 ≡ column_tally s d (λ y. eqb y u) due (pos j)
      go true y n = after_is j (y tt) u h
      go false y n = sym (column_right s d (λ y. eqb y u) due j (n tt))

  -- one arrival: the shade is the rule's
  pub shade_is : (c : ℕ) → shade_at v c ≡ shade_of s a.b d a.rank due (pos c)
  unfolding shade_at window_count tally
  shade_is c =
      ranked_cong (2 ^ a.b) a.rank (λ u h. sum_cong (cols_of d) (λ j k. line_is u h (covered (pos c) d.trailcol j)))
      ∙ sym (rule_by_counts s a.b d a.rank due (pos c) f.framed.bits)
