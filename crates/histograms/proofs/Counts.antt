-- The column counts of an arrival, by the rows that its edges reach.
-- Assumes nothing.
use Prim.Native.Nat.{ℕ, ◌*◌, ◌^◌, ◌≤◌, ◌<◌}
use native.Mathlib.Nat.{le_of_eq}
use native.Mathlib.Omega.{arith}
use mathlib.Core.Path.{◌≡◌, refl, sym, ap, ◌∙◌, subst}
use mathlib.Core.Bool.{Bool, true, false, cond}
use mathlib.Core.List.{List, ◌++◌}
use lib.Dec.{T}
use lib.IntN.{ℤ, pos}
use lib.ListN.{length, get_or, drop}
use lib.Pow.{pow_mono}
use Rattle.arith.specs.All.{all}
use Rattle.arith.specs.Tab.{tab}
use Rattle.arith.proofs.Alls.{all_cong, all_at}
use Rattle.arith.proofs.Grids.{grid_cong, grid_at_lem}
use Rattle.arith.proofs.Ints.{diff_pos_part}
use Rattle.arith.proofs.Tabs.{length-tab, get_or-tab}
use Rattle.layout.specs.Measure.{rows_of}
use Rattle.layout.specs.declared.Rect.{Rect}
use Rattle.limits.specs.Limits.{rect_good}
use Rattle.limits.proofs.Bounds.{rect_bounds}
use Rattle.levels.proofs.Changes.{good_column}
use Rattle.ring.specs.Ring.{row_at}
use Rattle.levels.specs.Levels.{count_at, moved_count, column_good}
use Rattle.histograms.specs.declared.Arrival.{Arrival}
use Rattle.histograms.specs.Arrivals.{Counting, delay_by, edge_row, is_given, times_at, edge_at, good_at, new_count, counts_after}
use Rattle.histograms.specs.Edges.{EdgeOf, counted_sample}
use Rattle.histograms.specs.Parts.{CountFits, Counted, ColumnsCount, Moved}
use Rattle.histograms.proofs.Edge.{counted_by}

-- a row counts at most once
pub times_most : {given : ℕ} {e : ℤ} {times row : ℕ} → EdgeOf given e times row → times ≤ 1
times_most {given} {e} {times} o = go (is_given given e) o.often
  where
    go : (b : Bool) → times ≡ cond b 1 0 → times ≤ 1
    go true t = omega arith
    go false t = omega arith

module _ (v : Counting) where
  abbrev a : Arrival
  a = v.what

  -- a row that an edge reaches, as it is lent
  abbrev pub lent_row : (times row : ℕ) → List ℕ
  lent_row times row = tab a.width (counted_sample times (row_at a.width a.number v.row v.samples (pos row)))

  module _ {times row : ℕ} (edge : ℤ) (o : EdgeOf a.given (edge_row a edge) times row) where
    pub often_is : times ≡ times_at a edge
    unfolding times_at
    often_is = o.often

    pub lent_at : (c : ℕ) → c < a.width → get_or (lent_row times row) c 0 ≡ edge_at v edge c
    unfolding edge_at
    lent_at c h = get_or-tab a.width _ c 0 h ∙ counted_by o (λ e. row_at a.width a.number v.row v.samples e) c

  -- the columns with these rows lent
  module _ {less off more on : ℕ} (p : EdgeOf a.given (edge_row a a.rect.trailrow) less off) (q : EdgeOf a.given (edge_row a a.rect.leadrow) more on) where
    pub columns_count : {zeros : List ℕ} → CountFits v zeros → ColumnsCount a (length v.counts) (length (lent_row less off)) less (length (lent_row more on)) more
    columns_count f =
        record {
          rect = f.rect;
          bits_most = f.bits_most;
          counts_long = f.counts_long;
          off_long = le_of_eq (sym (length-tab a.width _));
          on_long = le_of_eq (sym (length-tab a.width _));
          less_most = times_most p;
          more_most = times_most q;
        }

    good_is : (c : ℕ) → c < a.width
        → column_good (2 ^ a.b) (rows_of a.rect) (count_at v.counts c) (get_or (lent_row less off) c 0) less (get_or (lent_row more on) c 0) more ≡ good_at v c
    unfolding good_at
    good_is c h = rw (lent_at a.rect.trailrow p c h, lent_at a.rect.leadrow q c h, often_is a.rect.trailrow p, often_is a.rect.leadrow q) refl

    new_is : (c u : ℕ) → c < a.width → moved_count (count_at v.counts c) (get_or (lent_row less off) c 0) less (get_or (lent_row more on) c 0) more u ≡ new_count v c u
    unfolding new_count
    new_is c u h = rw (lent_at a.rect.trailrow p c h, lent_at a.rect.leadrow q c h, often_is a.rect.trailrow p, often_is a.rect.leadrow q) refl

    pub counted : {good : Bool} {after : List ℕ} → Moved a v.counts (lent_row less off) less (lent_row more on) more good after → Counted v good after
    unfolding counts_after
    counted m =
        record {
          answer = m.answer ∙ all_cong a.width good_is;
          moved = λ t. m.moved t ∙ ap (λ xs. xs ++ drop (a.width * 256) v.counts) (grid_cong a.width 256 (λ c u h i. new_is c u h));
          kept = m.kept;
          long = m.long;
        }

-- the delay of a window within the limits
pub delay_most : (d : Rect) → rect_good d ≡ true → delay_by d ≤ 15
delay_most d e =
    let b = rect_bounds d (subst T (sym e) tt) in
    let p = diff_pos_part b.row.lead_is in
    let m = b.row.most in
    omega arith

-- an arrival that passes question 19 leaves counts of at most M
pub counts_most : (v : Counting) → v.what.b ≤ 8 → T (all v.what.width (good_at v))
    → (j u : ℕ) → j < v.what.width → u < 2 ^ v.what.b → count_at (counts_after v) j u ≤ rows_of v.what.rect
unfolding counts_after good_at new_count
counts_most v few t j u h i =
    let d = v.what.rect in
    let n = pow_mono few in
    let g = (good_column (2 ^ v.what.b) (rows_of d) (count_at v.counts j) _ _ _ _ (all_at v.what.width (good_at v) t j h)).within u i in
    rw (grid_at_lem v.what.width 256 (new_count v) (drop (v.what.width * 256) v.counts) 0 j u h (omega arith)) g

-- at most 31
pub counts_small : (v : Counting) → rect_good v.what.rect ≡ true → v.what.b ≤ 8 → T (all v.what.width (good_at v))
    → (j u : ℕ) → j < v.what.width → u < 2 ^ v.what.b → count_at (counts_after v) j u ≤ 31
counts_small v e few t j u h i =
    let b = (rect_bounds v.what.rect (subst T (sym e) tt)).rows_most in
    let m = counts_most v few t j u h i in
    omega arith
