-- The stores of a run, from one arrival to the next.
-- Assumes nothing.
use Prim.Native.Nat.{ℕ, ◌+◌, ◌-◌, ◌*◌, ◌%◌, ◌≤◌, ◌<◌}
use native.Mathlib.Omega.{arith}
use mathlib.Core.Path.{◌≡◌, refl, sym, ap, subst, ◌∙◌}
use mathlib.Core.Bool.{Bool, true, false, not, cond, ◌||◌}
use mathlib.Core.List.{List, ◌++◌}
use lib.Dec.{T, ltb, nltb→le}
use lib.IntN.{ℤ, pos}
use lib.ListN.{length, get_or, drop}
use Rattle.arith.specs.All.{all}
use Rattle.arith.specs.Tab.{tab}
use Rattle.arith.specs.Twos.{fits_signed}
use Rattle.arith.proofs.Alls.{all_of}
use Rattle.arith.proofs.Bools.{true_of, or-true}
use Rattle.arith.proofs.Grids.{grid_long}
use Rattle.arith.proofs.Pastes.{paste-length}
use Rattle.arith.proofs.Tabs.{tab_cong}
use Rattle.arith.proofs.Ints.{sub_high}
use Rattle.layout.specs.declared.Table.{Table}
use Rattle.layout.specs.Measure.{delay_of}
use Rattle.limits.specs.Limits.{acceptable}
use Rattle.rule.specs.Sums.{Image}
use Rattle.rule.specs.Pixels.{pixel_of}
use Rattle.rule.proofs.Fitting.{pixel_fits}
use Rattle.arrival.specs.Arrivals.{Arrival, stored, new_sum, sum_good, pixel_at, due_good, samples_after, sums_after, output_after}
use Rattle.ring.proofs.Kept.{kept_next, place_end}
use Rattle.model.proofs.Rows.{InFrame}
use Rattle.run.specs.Holds.{Stores}
use Rattle.run.proofs.Arrives.{Finds, pixel_is, sums_good, sums_next}

module _ (t : Table) (l : ℕ) (x : Image) (a : ℕ) (row samples sums : List ℕ) where
  -- what arrives
  abbrev pub v : Arrival
  v = record { table = t; width = l; number = a; row = row; samples = samples; sums = sums }

  module _ (ok : acceptable t ≡ true) (framed : InFrame l t.b x) (is : (c : ℕ) → c < l → get_or row c 0 ≡ x (pos a) (pos c)) (st : Stores t l x a samples sums) where
    pub finds : Finds x v
    unfolding stored
    finds = record { table = ok; framed = framed; row = is; kept = st.kept; sums = st.carried }

    pub all_good : all t.count (λ k. all l (sum_good v k)) ≡ true
    all_good = sums_good x v finds

    -- every pixel is one of the rule, and fits its word
    pub due_good_lem : due_good v ≡ true
    unfolding due_good
    due_good_lem =
        let fits : ℕ → Bool = λ c. fits_signed t.w (pixel_at v c) in
        let all_fit = all_of l fits (λ c h. subst (λ p. T (fits_signed t.w p)) (sym (pixel_is x v finds c))
        (pixel_fits t ok framed.bits _ (pos c))) in
        ap (λ b. ltb a (delay_of t) || b) (true_of (all l fits) all_fit) ∙ or-true (ltb a (delay_of t))

    samples_same : length row ≡ l → length (samples_after v) ≡ length samples
    unfolding samples_after
    samples_same n = paste-length (a % 32 * l) row samples (let p = place_end a l in let h = st.samples_long in omega arith)

    sums_same : length (sums_after v) ≡ length sums
    unfolding sums_after
    sums_same = grid_long t.count l (new_sum v) sums st.sums_long

    -- the stores before the next arrival
    pub stores_next : length row ≡ l → Stores t l x (a + 1) (samples_after v) (sums_after v)
    unfolding samples_after
    stores_next n =
        let h = st.samples_long in
        let i = st.sums_long in
        let p = samples_same n in
        let q = sums_same in
        record {
          samples_long = omega arith;
          sums_long = omega arith;
          kept = kept_next l x a row samples n h is st.kept;
          carried = λ k c lk lc. sums_next x v finds k c lk lc;
        }

    -- the output: as it was lent where no row is due yet, else that row by the pixel rule
    pub output_is : (out : List ℤ)
        → output_after v out ≡ cond (ltb a (delay_of t)) out (tab l (λ c. pixel_of t x (pos (a - delay_of t)) (pos c)) ++ drop l out)
    unfolding output_after
    output_is out = go (ltb a (delay_of t)) (nltb→le a (delay_of t))
      where
        go : (b : Bool) → (T (not b) → delay_of t ≤ a)
            → cond b out (tab l (pixel_at v) ++ drop l out) ≡ cond b out (tab l (λ c. pixel_of t x (pos (a - delay_of t)) (pos c)) ++ drop l out)
        go true h = refl
        go false h =
            ap (λ ys. ys ++ drop l out) (tab_cong l (λ c i. pixel_is x v finds c ∙ ap (λ r. pixel_of t x r (pos c)) (sub_high a (delay_of t) (h tt))))
