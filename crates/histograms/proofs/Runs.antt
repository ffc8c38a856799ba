-- A row is done by runs of pixels at which the columns that enter, and those that leave, lie all in the row or all outside it.
-- Assumes nothing.
use Prim.Native.Nat.{ℕ, ◌+◌, ◌-◌, ◌*◌, ◌≤◌, ◌<◌}
use native.Mathlib.Nat.{le_refl}
use native.Mathlib.Omega.{arith}
use mathlib.Core.Path.{◌≡◌, refl, ap, ◌∙◌, subst}
use mathlib.Core.Logic.{◌⊎◌, inl, inr}
use mathlib.Core.List.{List, ◌++◌}
use lib.IntN.{ℤ, sub_ℕ}
use lib.ListN.{length, get_or, set, drop, length-set, length-drop}
use lib.Seq.{drop_at, get_or-drop}
use borrow.Author.Tests.{lt-ltb, le-ltb}
use Rattle.std.proofs.Common.{Bor}
use Rattle.arith.specs.Tab.{tab}
use Rattle.arith.proofs.Ints.{sub_low, sub_high}
use Rattle.arith.proofs.Parts.{line_end_lem, part, part-tab}
use Rattle.arith.proofs.Passes.{none_done, one_more, pass_length, pass_again}
use Rattle.arith.proofs.Tabs.{length-tab, tab_cong}
use Rattle.levels.specs.Levels.{ranked}
use Rattle.histograms.specs.declared.windows.Span.{Span}
use Rattle.histograms.specs.declared.windows.Lane.{Lane}
use Rattle.histograms.specs.Windows.{column_count}
use Rattle.histograms.specs.Spans.{slid_to, Zeros, SpanFits, LaneOf, Holds, Reached, Carried, Written}
use Rattle.histograms.proofs.Slides.{holds_list, holds_next}

-- ---- columns that stand one after the other

module _ (s : Span) {counts zeros : List ℕ} (f : SpanFits s counts) (d : Zeros 256 zeros) where
  -- in the store
  module _ (k back i n : ℕ) (h : back ≤ k) (m : i < n) (l : k + n ≤ s.width + back) where
    store_ends : i * 256 + s.levels ≤ length (drop ((k - back) * 256) counts)
    store_ends =
        let e = line_end_lem (k - back + i) s.width 256 (length counts) (omega arith) f.counts_long in
        let g = f.few in
        let t = length-drop ((k - back) * 256) counts in
        omega arith

    store_at : (u : ℕ) → get_or (drop ((k - back) * 256) counts) (i * 256 + u) 0 ≡ column_count counts s.width u (sub_ℕ (k + i) back)
    unfolding column_count
    store_at u =
        let e : (k - back) * 256 + (i * 256 + u) ≡ (k + i - back) * 256 + u = let j : k - back + i ≡ k + i - back = omega arith in omega arith in
        get_or-drop ((k - back) * 256) counts (i * 256 + u) 0 ∙ ap (λ j. get_or counts j 0) e
        ∙ rw (sub_high (k + i) back (omega arith), lt-ltb (k + i - back) s.width (omega arith)) refl

  -- outside the row
  none_at : (k back : ℕ) (u : ℕ) → (k < back) ⊎ (s.width + back ≤ k) → 0 ≡ column_count counts s.width u (sub_ℕ k back)
  unfolding column_count
  none_at k back u (inl h) = rw (sub_low k back h) refl
  none_at k back u (inr h) = rw (sub_high k back (omega arith), le-ltb (k - back) s.width (omega arith)) refl

  -- a lane in the store, and one outside the row
  pub lane_inside : (k back most n : ℕ) → back ≤ k → (1 ≤ most → 1 ≤ n) → n ≤ most → k + n ≤ s.width + back → {line : Bor (List ℕ)}
      → line.now ≡ drop ((k - back) * 256) counts → LaneOf s counts k back most (record { line = line; step = 256; count = n })
  lane_inside k back most n h some few l e =
      record {
        some = some;
        few = few;
        step_most = omega arith;
        long = λ i m. rw e (store_ends k back i n h m l);
        is = λ i u m. rw e (store_at k back i n h m l u);
      }

  pub lane_outside : (k back most n : ℕ) → (1 ≤ most → 1 ≤ n) → n ≤ most → ((i : ℕ) → i < n → (k + i < back) ⊎ (s.width + back ≤ k + i)) → {line : Bor (List ℕ)}
      → line.now ≡ zeros → LaneOf s counts k back most (record { line = line; step = 0; count = n })
  lane_outside k back most n some few out e =
      record {
        some = some;
        few = few;
        step_most = omega arith;
        long = λ i m. rw e (let l = d.long in let p = f.few in omega arith);
        is = λ i u m. rw e (d.none (i * 0 + u) ∙ none_at (k + i) back u (out i m));
      }

-- the columns of a lane
pub lane_is : (s : Span) {counts : List ℕ} {k back most : ℕ} {l : Lane} → LaneOf s counts k back most l → (i at : ℕ) → i < l.count → k + i ≡ at
    → part (i * l.step) s.levels l.line.now ≡ tab s.levels (λ u. column_count counts s.width u (sub_ℕ at back))
lane_is s {counts} {back = back} {l = l} h i at m q =
    part-tab (i * l.step) s.levels l.line.now (h.long i m)
    ∙ tab_cong s.levels (λ u p. h.is i u m ∙ ap (λ j. column_count counts s.width u (sub_ℕ j back)) q)

-- a lane is no longer than it is
pub lane_own : {s : Span} {counts : List ℕ} {k back most : ℕ} {l : Lane} → LaneOf s counts k back most l → LaneOf s counts k back l.count l
lane_own h = record { some = λ m. m; few = le_refl _; step_most = h.step_most; long = h.long; is = h.is }

-- ---- a run of pixels

module _ (s : Span) {counts : List ℕ} where
  pub carried_none : (from : ℕ) {out : List ℤ} {window : List ℕ}
      → Holds s counts (from + s.ahead) window → Carried s counts from from out window out window
  carried_none from h = record { holds = h; out_long = refl; long = refl; carries = λ o w r. r }

  pub carried_at : {from c at : ℕ} {out₀ : List ℤ} {window₀ : List ℕ} {out : List ℤ} {window : List ℕ} → c ≡ at
      → Carried s counts from c out₀ window₀ out window → Carried s counts from at out₀ window₀ out window
  carried_at {from} {out₀ = out₀} {window₀} {out} {window} e h = subst (λ k. Carried s counts from k out₀ window₀ out window) e h

  pub reached_at : {o : List ℤ} {w : List ℕ} {c at : ℕ} {out : List ℤ} {window : List ℕ} → c ≡ at
      → Reached s counts o w c out window → Reached s counts o w at out window
  reached_at {o} {w} {out = out} {window} e h = subst (λ k. Reached s counts o w k out window) e h

  -- one pixel more
  pub carried_next : {from c : ℕ} {out₀ : List ℤ} {window₀ : List ℕ} {out : List ℤ} {window next : List ℕ} {z : ℤ}
      → Carried s counts from c out₀ window₀ out window → c < s.width → s.width ≤ length out₀
      → next ≡ tab s.levels (slid_to counts s (c + s.ahead + 1)) ++ drop s.levels window
      → z ≡ ranked s.levels s.rank (slid_to counts s (c + s.ahead + 1))
      → Carried s counts from (c + 1) out₀ window₀ (set out c z) next
  carried_next {from} {c} {out₀} {window₀} {out} {window} {next} {z} a h n e x =
      record {
        holds = subst (λ k. Holds s counts k next) on (holds_next s (c + s.ahead + 1) window a.holds.long e);
        out_long = length-set out c z ∙ a.out_long;
        long = ap length e ∙ pass_length s.levels _ window a.holds.long ∙ a.long;
        carries = λ o w r.
            let q = a.carries o w r in
            let m = r.long in
            let p = one_more {f = λ k. ranked s.levels s.rank (slid_to counts s (k + s.ahead + 1))}
            (record { count = omega arith; room = omega arith; long = q.long; is = q.row }) h x in
            record {
              row = p.is;
              long = p.long;
              is = e ∙ pass_again s.levels (slid_to counts s (c + s.ahead)) (slid_to counts s (c + s.ahead + 1)) w q.is
                  ∙ ap (λ k. tab s.levels (slid_to counts s k) ++ drop s.levels w) on;
            };
      }
    where
      on : c + s.ahead + 1 ≡ c + 1 + s.ahead
      on = omega arith

  -- at the first pixel
  pub first_holds : {w : List ℕ} → Holds s counts s.ahead w → Holds s counts (0 + s.ahead) w
  first_holds {w} h = let e : s.ahead ≡ 0 + s.ahead = omega arith in subst (λ k. Holds s counts k w) e h

  pub none_reached : (o : List ℤ) {w : List ℕ} → s.width ≤ length o → Holds s counts s.ahead w → Reached s counts o w 0 o w
  none_reached o n h =
      record {
        row = (none_done s.width (λ k. ranked s.levels s.rank (slid_to counts s (k + s.ahead + 1))) o n).is;
        long = refl;
        is = holds_list s (0 + s.ahead) (first_holds h);
      }

  -- after the last
  pub all_reached : {o : List ℤ} {w : List ℕ} {out : List ℤ} {window : List ℕ} → s.levels ≤ length w
      → Reached s counts o w s.width out window → Written s counts o w out window
  all_reached {w = w} n r =
      record {
        row = r.row;
        rest = ap (drop s.levels) r.is ∙ drop_at (tab s.levels _) (drop s.levels w) s.levels (length-tab s.levels _);
        long = ap length r.is ∙ pass_length s.levels _ w n;
      }
