-- The stores of a ranked scan, from one arrival to the next.
-- Assumes nothing.
use Prim.Native.Nat.{ℕ, suc, ◌+◌, ◌-◌, ◌*◌, ◌%◌, ◌^◌, ◌≤◌, ◌<◌}
use native.Mathlib.Nat.{le_trans, le_of_eq, mul-le-mul_right}
use native.Mathlib.Omega.{arith}
use mathlib.Core.Path.{◌≡◌, refl, sym, ap, ◌∙◌}
use mathlib.Core.Bool.{Bool, true, false, not, cond}
use mathlib.Core.List.{List, ◌++◌}
use lib.Dec.{T, ltb, nltb→le}
use lib.IntN.{ℤ, pos, negsuc, sub_ℕ, ◌+ℤ◌}
use lib.Signed.{◌≤ℤ◌}
use lib.Pow.{pow_mono}
use lib.ListN.{length, get_or, drop}
use Rattle.arith.specs.All.{all}
use Rattle.arith.specs.Tab.{tab, zeroed}
use Rattle.arith.proofs.Ints.{diff_pos, diff_add, diff_sub, le_diff, sub_high}
use Rattle.arith.proofs.Grids.{grid_long}
use Rattle.arith.proofs.Passes.{pass_done, pass_length}
use Rattle.arith.proofs.Pastes.{paste-length}
use Rattle.arith.proofs.Tabs.{tab_cong}
use Rattle.limits.specs.Limits.{rect_good}
use Rattle.rule.specs.Sums.{Image}
use Rattle.rule.proofs.Depends.{covered_most}
use Rattle.ring.specs.Ring.{Kept}
use Rattle.ring.proofs.Kept.{kept_none, kept_next, place_end}
use Rattle.model.proofs.Rows.{InFrame}
use Rattle.histograms.specs.declared.Arrival.{Arrival}
use Rattle.histograms.specs.Arrivals.{Counting, delay_by, good_at, new_count, counts_after, samples_after, shade_at, output_after}
use Rattle.rank.specs.Calls.{rect_of, stores_good}
use Rattle.rank.proofs.States.{stores_bounds}
use Rattle.rankrun.specs.Rule.{Strip, shade_of}
use Rattle.rankrun.specs.Holds.{Setting, Stores}
use Rattle.rankrun.proofs.Shades.{AlikeAt, column_alike}
use Rattle.rankrun.proofs.Arrives.{Finds, column_none, counts_good, counts_next, shade_is}

-- no arrival yet, and nothing counted
pub stores_none : (q : Setting) (s : Strip) (samples counts windows : List ℕ) → s.height ≡ 0 → q.b ≤ 8
    → stores_good q.width (length samples) (length counts) (length windows) ≡ true
    → Stores q s 0 (zeroed (32 * q.width) samples) (zeroed (256 * q.width) counts) (zeroed 256 windows)
stores_none q s samples counts windows none few st =
    let b = stores_bounds q.width (length samples) (length counts) (length windows) st in
    record {
      samples_long = le_trans b.0 (le_of_eq (sym (pass_length (32 * q.width) (λ k. 0) samples b.0)));
      counts_long = le_trans b.1 (le_of_eq (sym (pass_length (256 * q.width) (λ k. 0) counts b.1)));
      windows_long = le_trans b.2 (le_of_eq (sym (pass_length 256 (λ k. 0) windows b.2)));
      kept = kept_none q.width s.image _;
      counted = λ c v l h. pass_done (256 * q.width) (λ k. 0) counts (c * 256 + v) 0 (place c v l h) ∙ sym (column_none s (rect_of q.window) _ _ (pos c) none);
      cleared = λ v h. pass_done 256 (λ k. 0) windows v 0 h;
    }
  where
    place : (c v : ℕ) → c < q.width → v < 2 ^ q.b → c * 256 + v < 256 * q.width
    place c v l h = let m = mul-le-mul_right 256 l in let p = pow_mono few in omega arith

-- the stores after a arrivals say nothing of the rows from a on
pub stores_agree : (q : Setting) (s t : Strip) (a : ℕ) (samples counts windows : List ℕ)
    → ((i : ℕ) → AlikeAt s t (negsuc i)) → ((e : ℕ) → e < a → AlikeAt s t (pos e))
    → Stores q s a samples counts windows → Stores q t a samples counts windows
unfolding Kept
stores_agree q s t a samples counts windows above agree st =
    record {
      samples_long = st.samples_long;
      counts_long = st.counts_long;
      windows_long = st.windows_long;
      kept = λ e c h k p. st.kept e c h k p ∙ (agree e h).same (pos c);
      counted = λ c v l h. st.counted c v l h ∙ column_alike s t (rect_of q.window) before (λ i k. alike _ (covered_most (rect_of q.window) before i delay k (le_of_eq refl))) _ (pos c);
      cleared = st.cleared;
    }
  where
    delay : ℕ
    delay = delay_by (rect_of q.window)

    before : ℤ
    before = sub_ℕ a (suc delay)

    alike : (z : ℤ) → z ≤ℤ (before +ℤ pos delay) → AlikeAt s t z
    alike (negsuc m) h = above m
    alike (pos e) h = agree e (let p = le_diff (diff_pos e) (diff_add (diff_sub a (suc delay)) (diff_pos delay)) h in omega arith)

-- an arrival at these stores
module _ (q : Setting) (x : Image) (number given : ℕ) (row samples counts windows : List ℕ) where
  abbrev pub arrival : Arrival
  arrival = record { rect = rect_of q.window; b = q.b; rank = q.rank; width = q.width; number = number; given = given }

  abbrev pub arrived : Counting
  arrived = record { what = arrival; row = row; samples = samples; counts = counts }

  abbrev pub strip : Strip
  strip = record { height = given; width = q.width; image = x }

  module _ (ok : rect_good (rect_of q.window) ≡ true) (few : q.b ≤ 8) (framed : InFrame q.width q.b x)
      (is : (c : ℕ) → c < q.width → get_or row c 0 ≡ x (pos number) (pos c)) (st : Stores q strip number samples counts windows) where
    pub finds : Finds x arrived
    finds = record { rect = ok; bits_most = few; framed = framed; row = is; kept = st.kept; counted = st.counted }

    pub all_good : all q.width (good_at arrived) ≡ true
    all_good = counts_good x arrived finds

    counts_same : length (counts_after arrived) ≡ length counts
    unfolding counts_after
    counts_same = grid_long q.width 256 (new_count arrived) counts (let h = st.counts_long in omega arith)

    samples_same : length row ≡ q.width → length (samples_after arrived) ≡ length samples
    unfolding samples_after
    samples_same n = paste-length (number % 32 * q.width) row samples (let p = place_end number q.width in let h = st.samples_long in omega arith)

    -- the stores before the next arrival
    pub stores_next : length row ≡ q.width → Stores q strip (number + 1) (samples_after arrived) (counts_after arrived) (zeroed 256 windows)
    unfolding samples_after
    stores_next n =
        let h = st.samples_long in
        let i = st.counts_long in
        let j = st.windows_long in
        let p = samples_same n in
        let k = counts_same in
        let w = pass_length 256 (λ k. 0) windows j in
        record {
          samples_long = omega arith;
          counts_long = omega arith;
          windows_long = omega arith;
          kept = kept_next q.width x number row samples n h is st.kept;
          counted = counts_next x arrived finds;
          cleared = λ v l. pass_done 256 (λ k. 0) windows v 0 l;
        }

    -- the output: as it was lent where no row is due yet, else that row by the rule
    pub output_is : (out : List ℤ)
        → output_after arrived out
        ≡ cond (ltb number (delay_by (rect_of q.window))) out
        (tab q.width (λ c. shade_of strip q.b (rect_of q.window) q.rank (pos (number - delay_by (rect_of q.window))) (pos c)) ++ drop q.width out)
    unfolding output_after
    output_is out = go (ltb number late) (nltb→le number late)
      where
        late : ℕ
        late = delay_by (rect_of q.window)

        shades : (r : ℤ) → List ℤ
        shades r = tab q.width (λ c. shade_of strip q.b (rect_of q.window) q.rank r (pos c))

        go : (b : Bool) → (T (not b) → late ≤ number)
            → cond b out (tab q.width (shade_at arrived) ++ drop q.width out) ≡ cond b out (shades (pos (number - late)) ++ drop q.width out)
        go true h = refl
        go false h =
            ap (λ ys. ys ++ drop q.width out)
            (tab_cong q.width (λ c i. shade_is x arrived finds c ∙ ap (λ r. shade_of strip q.b (rect_of q.window) q.rank r (pos c)) (sub_high number late (h tt))))
