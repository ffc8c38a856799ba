-- The counts of a window as it slides along a row.
-- Assumes nothing.
use Prim.Native.Nat.{ℕ, suc, ◌+◌, ◌≤◌, ◌<◌, zero-le}
use native.Mathlib.Nat.{mul-le-mul, le_refl, le_of_eq}
use native.Mathlib.Omega.{arith}
use mathlib.Core.Path.{◌≡◌, refl, sym, ap, ◌∙◌}
use mathlib.Core.Bool.{Bool, true, false, cond}
use mathlib.Core.List.{List, ◌++◌}
use lib.Dec.{T, ltb, ltb→lt}
use lib.IntN.{ℤ, pos, negsuc, sub_ℕ}
use lib.ListN.{length, get_or, take, drop, take-append-drop}
use lib.Seq.{get_or-take, length-take-le}
use Rattle.arith.specs.Part.{pos_part, neg_part}
use Rattle.arith.specs.Tab.{tab}
use Rattle.arith.proofs.Ints.{diff_pos, diff_sub, diff_add, diff_eq, sub_low, diff_pos_part, diff_neg_part}
use Rattle.arith.proofs.Sums.{sum_cong, sum-suc, sum_first, sum_zero, sum_bound, term_le_sum}
use Rattle.arith.proofs.Parts.{first_tab}
use Rattle.arith.proofs.Passes.{pass_length, pass_done}
use Rattle.arith.proofs.Tabs.{length-tab, get_or-tab, tab_cong}
use Rattle.layout.specs.declared.Rect.{Rect}
use Rattle.layout.specs.Measure.{cols_of}
use Rattle.limits.proofs.Bounds.{RectBounds, extent}
use Rattle.rule.specs.Sums.{covered}
use Rattle.levels.specs.Levels.{count_of, count_at, slid_count, ranked}
use Rattle.levels.specs.Fits.{FindFits}
use Rattle.levels.proofs.Ranks.{ranked_cong}
use Rattle.histograms.specs.declared.windows.Span.{Span}
use Rattle.histograms.specs.Windows.{column_count, window_count}
use Rattle.histograms.specs.Spans.{span_of, framed, slid_to, SpanFits, Holds}

-- a column's count is within what bounds the counts of the row
pub column_most : (counts : List ℕ) (l u a : ℕ) → ((j : ℕ) → j < l → count_at counts j u ≤ a) → (j : ℤ) → column_count counts l u j ≤ a
unfolding column_count
column_most counts l u a h (negsuc j) = zero-le
column_most counts l u a h (pos j) = go (ltb j l) (ltb→lt j l)
  where
    go : (b : Bool) → (T b → j < l) → cond b (count_at counts j u) 0 ≤ a
    go true f = h j (f tt)
    go false f = zero-le

module _ (counts : List ℕ) (s : Span) where
  -- formula (4): one column leaves, and another enters
  pub slid_next : (k u : ℕ) → slid_to counts s (k + 1) u + framed counts s u k ≡ slid_to counts s k u + framed counts s u (k + s.columns)
  slid_next k u =
      let f : ℕ → ℕ = λ j. framed counts s u (k + j) in
      let a = sum_first s.columns f in
      let b = sum-suc s.columns f in
      let p : k + 0 ≡ k = omega arith in
      let e = ap (framed counts s u) p in
      let n = sum_cong s.columns {f = λ j. f (suc j)} {g = λ j. framed counts s u (k + 1 + j)} (λ j h. ap (framed counts s u) (shift j)) in
      omega arith
    where
      shift : (j : ℕ) → k + suc j ≡ k + 1 + j
      shift j = omega arith

  -- what leaves is counted in the window
  pub leaving_in : (k u : ℕ) → 1 ≤ s.columns → framed counts s u k ≤ slid_to counts s k u
  leaving_in k u h =
      let p : k + 0 ≡ k = omega arith in
      let e = ap (framed counts s u) p in
      let t = term_le_sum s.columns (λ j. framed counts s u (k + j)) 0 h in
      omega arith

  -- what enters is column k - behind
  pub entering_is : (k u : ℕ) → framed counts s u (k + s.columns) ≡ column_count counts s.width u (sub_ℕ k s.behind)
  entering_is k u = ap (column_count counts s.width u) (diff_eq (diff_sub (k + s.columns) (s.behind + s.columns)) (diff_sub k s.behind) (omega arith))

  -- before the first column the window is empty
  pub slid_none : (u : ℕ) → slid_to counts s 0 u ≡ 0
  unfolding column_count
  slid_none u = sum_zero s.columns (λ j h. rw (sub_low (0 + j) (s.behind + s.columns) (omega arith)) refl)

  -- 31 columns of counts of at most 31
  pub slid_most : (k u : ℕ) → s.columns ≤ 31 → ((j : ℕ) → j < s.width → count_at counts j u ≤ 31) → slid_to counts s k u ≤ 961
  slid_most k u n h =
      let m = sum_bound s.columns 31 {f = λ j. framed counts s u (k + j)} (λ j i. column_most counts s.width u 31 h _) in
      let p = mul-le-mul n (le_refl 31) in
      omega arith

-- the window at a pixel: the columns that have entered when the lead's column has
pub slid_window : (counts : List ℕ) (d : Rect) (l n R c u : ℕ) → RectBounds d
    → slid_to counts (span_of d l n R) (c + pos_part d.leadcol + 1) u ≡ window_count counts l d (pos c) u
unfolding window_count cols_of covered
slid_window counts d l n R c u b =
    let e = extent b.col in
    let p = diff_pos_part b.col.lead_is in
    let q = diff_neg_part b.col.lead_is in
    sum_cong (cols_of d) (λ j h.
    ap (column_count counts l u) (diff_eq (diff_sub (c + pos_part d.leadcol + 1 + j) (neg_part d.leadcol + cols_of d)) (diff_add (diff_add (diff_pos c) b.col.trail_is) (diff_pos (suc j))) (omega arith)))

-- ---- one slide of the window store

module _ (s : Span) {counts window off on : List ℕ} (f : SpanFits s counts) (k : ℕ) (h : Holds s counts k window)
    (leaves : off ≡ tab s.levels (λ u. column_count counts s.width u (sub_ℕ k (s.behind + s.columns))))
    (enters : on ≡ tab s.levels (λ u. column_count counts s.width u (sub_ℕ k s.behind))) where
  off_at : (u : ℕ) → u < s.levels → count_of off u ≡ framed counts s u k
  off_at u l = ap (λ xs. get_or xs u 0) leaves ∙ get_or-tab s.levels _ u 0 l

  on_at : (u : ℕ) → u < s.levels → count_of on u ≡ framed counts s u (k + s.columns)
  on_at u l = ap (λ xs. get_or xs u 0) enters ∙ get_or-tab s.levels _ u 0 l ∙ sym (entering_is counts s k u)

  abbrev lent : List ℕ
  lent = take s.levels window

  lent_long : length lent ≡ s.levels
  lent_long = length-take-le s.levels window h.long

  lent_at : (u : ℕ) → u < s.levels → count_of lent u ≡ slid_to counts s k u
  lent_at u l = get_or-take s.levels window u 0 l ∙ h.each u l

  pub slide_off_long : length lent ≤ length off
  slide_off_long = rw (lent_long, leaves) (le_of_eq (sym (length-tab s.levels _)))

  pub slide_on_long : length lent ≤ length on
  slide_on_long = rw (lent_long, enters) (le_of_eq (sym (length-tab s.levels _)))

  pub slide_counted : (u : ℕ) → u < length lent → count_of off u ≤ count_of lent u
  slide_counted u i =
      let l : u < s.levels = rw lent_long at i in
      rw (off_at u l, lent_at u l) (leaving_in counts s k u f.columns_some)

  pub slide_room : (u : ℕ) → u < length lent → count_of lent u + count_of on u ≤ 65535
  slide_room u i =
      let l : u < s.levels = rw lent_long at i in
      let m = slid_most counts s k u f.columns_most (λ j i. f.small j u i l) in
      let n = column_most counts s.width u 31 (λ j i. f.small j u i l) (sub_ℕ (k + s.columns) (s.behind + s.columns)) in
      rw (on_at u l, lent_at u l) (omega arith)

  pub slide_leaves : {next : List ℕ} → next ≡ tab (length lent) (slid_count (count_of lent) (count_of off) (count_of on))
      → next ++ drop s.levels window ≡ tab s.levels (slid_to counts s (k + 1)) ++ drop s.levels window
  slide_leaves e =
      ap (λ xs. xs ++ drop s.levels window)
      (e ∙ ap (λ n. tab n (slid_count (count_of lent) (count_of off) (count_of on))) lent_long
      ∙ tab_cong s.levels (λ u l.
      let a = off_at u l in
      let b = on_at u l in
      let w = lent_at u l in
      let n = slid_next counts s k u in
      let i = leaving_in counts s k u f.columns_some in
      omega arith))

-- what it leaves holds the window one column on
pub holds_next : (s : Span) {counts window : List ℕ} (k : ℕ) (window₀ : List ℕ) → s.levels ≤ length window₀
    → window ≡ tab s.levels (slid_to counts s k) ++ drop s.levels window₀ → Holds s counts k window
holds_next s {counts} {window} k window₀ l e =
    record {
      long = rw (ap length e ∙ pass_length s.levels (slid_to counts s k) window₀ l) l;
      each = λ u i. ap (λ xs. get_or xs u 0) e ∙ pass_done s.levels (slid_to counts s k) window₀ u 0 i;
    }

-- a window store that holds it is the table of its counts, and what lies beyond
pub holds_list : (s : Span) {counts window : List ℕ} (k : ℕ) → Holds s counts k window → window ≡ tab s.levels (slid_to counts s k) ++ drop s.levels window
holds_list s {counts} {window} k h =
    sym (take-append-drop s.levels window)
    ∙ ap (λ xs. xs ++ drop s.levels window) (first_tab s.levels s.levels window refl h.long ∙ tab_cong s.levels h.each)

-- ---- the level found in it

module _ (s : Span) {counts window : List ℕ} (f : SpanFits s counts) (k : ℕ) (h : Holds s counts k window) where
  part_is : (u : ℕ) → u < s.levels → count_of (take s.levels window) u ≡ slid_to counts s k u
  part_is u l = get_or-take s.levels window u 0 l ∙ h.each u l

  part_long : length (take s.levels window) ≡ s.levels
  part_long = length-take-le s.levels window h.long

  pub find_fits : FindFits (take s.levels window) s.rank
  find_fits =
      let n = part_long in
      record {
        few = rw n f.few;
        small = λ u i.
            let l : u < s.levels = rw n at i in
            let m = slid_most counts s k u f.columns_most (λ j q. f.small j u q l) in
            rw (part_is u l) (omega arith);
        ranked = f.ranked;
      }

  pub found_is : ranked (length (take s.levels window)) s.rank (count_of (take s.levels window)) ≡ ranked s.levels s.rank (slid_to counts s k)
  found_is = ap (λ n. ranked n s.rank (count_of (take s.levels window))) part_long ∙ ranked_cong s.levels s.rank part_is
