-- The filtered row of an arrival, from the counts in the store.
-- Assumes nothing.
use Prim.Native.Nat.{ℕ, ◌+◌, ◌-◌, ◌^◌, ◌≤◌}
use native.Mathlib.Omega.{arith}
use mathlib.Core.Path.{◌≡◌, sym, ap, ◌∙◌, subst}
use mathlib.Core.List.{List, ◌++◌}
use lib.Dec.{T}
use lib.IntN.{ℤ}
use lib.ListN.{drop}
use lib.Pow.{pow_mono}
use lib.Seq.{drop-drop}
use Rattle.arith.specs.Tab.{tab, zeroed}
use Rattle.arith.proofs.Ints.{diff_pos_part, diff_neg_part}
use Rattle.arith.proofs.Tabs.{tab_cong}
use Rattle.limits.proofs.Bounds.{RectBounds, rect_bounds}
use Rattle.levels.proofs.Ranks.{ranked_cong}
use Rattle.histograms.specs.declared.Arrival.{Arrival}
use Rattle.histograms.specs.declared.windows.Span.{Span}
use Rattle.histograms.specs.Spans.{span_of, Zeros, SpanFits, BandFits, Holds, Written}
use Rattle.histograms.specs.Parts.{ShowFits, Shown}
use Rattle.histograms.proofs.Zero.{fewer_zeros}
use Rattle.histograms.proofs.Slides.{slid_none, slid_window}

-- b of at most 8 bits gives at most 256 levels
pub levels_most : (b : ℕ) → b ≤ 8 → 2 ^ b ≤ 256
levels_most b h = pow_mono h

-- what is equal from one place on is equal from a later one on
pub drop_later : (m n : ℕ) (xs ys : List ℕ) → m ≤ n → drop m xs ≡ drop m ys → drop n xs ≡ drop n ys
drop_later m n xs ys h e =
    let k : m + (n - m) ≡ n = omega arith in
    ap (λ i. drop i xs) (sym k) ∙ sym (drop-drop (n - m) m xs) ∙ ap (drop (n - m)) e ∙ drop-drop (n - m) m ys ∙ ap (λ i. drop i ys) k

module _ (a : Arrival) {counts zeros windows : List ℕ} {out : ℕ} (f : ShowFits a counts zeros windows out) where
  abbrev pub span : Span
  span = span_of a.rect a.width (2 ^ a.b) a.rank

  bounds : RectBounds a.rect
  bounds = rect_bounds a.rect (subst T (sym f.rect) tt)

  few : 2 ^ a.b ≤ 256
  few = levels_most a.b f.bits_most

  pub zero_columns : Zeros 256 zeros
  zero_columns = fewer_zeros f.dark 256 (omega arith)

  pub span_fits : SpanFits span counts
  span_fits =
      let b = bounds in
      let p = diff_pos_part b.col.lead_is in
      let q = diff_neg_part b.col.lead_is in
      let m = b.col.most in
      let l = b.col.above in
      record {
        few = few;
        counts_long = f.counts_long;
        behind_most = omega arith;
        ahead_most = omega arith;
        columns_some = b.cols_pos;
        columns_most = b.cols_most;
        width_most = f.width_most;
        ranked = f.ranked;
        small = f.small;
      }

  pub band_fits : BandFits span counts zeros
  band_fits = record { span = span_fits; dark = zero_columns }

  pub holds_none : Holds span counts 0 windows
  holds_none =
      let n = few in
      let l = f.windows_long in
      record { long = omega arith; each = λ u i. f.none u (omega arith) ∙ sym (slid_none counts span u) }

  -- the row and the window store that it leaves, set to zero
  pub shown : (out₀ : List ℤ) {out' : List ℤ} {window : List ℕ} → Written span counts out₀ windows out' window → Shown a counts out₀ windows out' (zeroed 256 window)
  shown out₀ {window = window} w =
      record {
        row = w.row ∙ ap (λ xs. xs ++ drop a.width out₀)
            (tab_cong a.width (λ c h. ranked_cong (2 ^ a.b) a.rank (λ u i. slid_window counts a.rect a.width (2 ^ a.b) a.rank c u bounds)));
        zero = ap (λ xs. tab 256 (λ k. 0) ++ xs) (drop_later (2 ^ a.b) 256 window windows few w.rest);
      }
