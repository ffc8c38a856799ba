-- The scan that is dark but for one sample: how it is stored, and what a table makes of it.
-- Assumes nothing.
use Rattle.std.proofs.Common.{ℕ, ◌+◌, ◌-◌, ◌*◌, ◌/◌, ◌%◌, ◌^◌, ◌≤◌, ◌<◌, zero-le, mod-lt, le_refl, arith, ◌≡◌, refl, sym, ap, ap₂, ◌∙◌, Bool, true, false, not, cond, ◌&&◌, List, [], ◌∷◌, ◌++◌, ◌≢◌, T, eqb, ltb, ltb→lt, nltb→le, ℤ, pos, ◌+ℤ◌, ◌*ℤ◌, length, get_or, set, drop, length-set, ext_get_or, get_or-set_same, get_or-set_other, eq-eqb, ne_eqb}
use Rattle.std.proofs.Math.Nat.{div-add-mod}
use native.Mathlib.Decide.{ℕ_discrete}
use Rattle.arith.specs.All.{all}
use Rattle.arith.specs.Part.{pos_part, neg_part}
use Rattle.arith.specs.Sum.{sum}
use Rattle.arith.specs.Tab.{grid, zeroed}
use Rattle.arith.proofs.Grids.{grid_at_lem, grid_long, grid_next}
use Rattle.arith.proofs.Passes.{length-grid, pass_length, pass_done, pass_next}
use Rattle.arith.proofs.Ints.{diff_parts, diff_scale, diff_eq}
use Rattle.arith.proofs.Sums.{sum_cong, sum_zero, sum_one}
use Rattle.layout.specs.declared.Table.{Table}
use Rattle.layout.specs.Contents.{contents}
use Rattle.layout.specs.Answers.{accepted, refused}
use Rattle.layout.proofs.Questions.{all_accepted}
use Rattle.grid.specs.Grid.{offset}
use Rattle.limits.specs.Limits.{no_drops, acceptable}
use Rattle.limits.proofs.Granted.{Granted}
use Rattle.rule.specs.Mended.{dead}
use Rattle.rule.specs.Questions.{sample_good, width_good, height_good, place_good}
use Rattle.rule.specs.Sums.{sample_at}
use Rattle.rule.specs.Pixels.{cut_value, pixel_of}
use Rattle.rule.proofs.Centred.{centred_good, centred_image}
use Rattle.rule.proofs.Fitting.{entries}
use Rattle.pixel.specs.Call.{pixel_asks, pixel_answer}
use Rattle.same.specs.Same.{weight_at, spot}

module _ (top a b : ℕ) where
  -- the sample at row i, column j
  abbrev lit : (i j : ℕ) → ℕ
  lit i j = cond (eqb i a && eqb j b) top 0

  lit_most : (i j : ℕ) → lit i j ≤ top
  lit_most i j = go (eqb i a && eqb j b)
    where
      go : (c : Bool) → cond c top 0 ≤ top
      go true = le_refl top
      go false = zero-le

  lit_here : lit a b ≡ top
  lit_here = rw (eq-eqb a a refl, eq-eqb b b refl) refl

  dark_row : (i j : ℕ) → i ≢ a → lit i j ≡ 0
  dark_row i j n = rw (ne_eqb i a n) refl

  dark_column : (j : ℕ) → j ≢ b → lit a j ≡ 0
  dark_column j n = rw (eq-eqb a a refl, ne_eqb j b n) refl

  -- of a sum over all samples one term is left
  sum_spot : (p : ℕ → ℕ → ℕ) → a < 31 → b < 31 → sum 31 (λ i. sum 31 (λ j. p i j * lit i j)) ≡ p a b * top
  sum_spot p h l =
      sum_one 31 (λ i. sum 31 (λ j. p i j * lit i j)) a h (λ i m n. sum_zero 31 (λ j o. ap (λ x. p i j * x) (dark_row i j n) ∙ omega arith))
      ∙ sum_one 31 (λ j. p a j * lit a j) b l (λ j m n. ap (λ x. p a j * x) (dark_column j n) ∙ omega arith)
      ∙ ap (λ x. p a b * x) lit_here

  pub spot_long : length (spot top a b) ≡ 31 * 31
  unfolding spot
  spot_long = length-grid 31 31 lit

  pub spot_good : all (length (spot top a b)) (sample_good top (spot top a b)) ≡ true
  unfolding spot
  spot_good = centred_good lit lit_most

  spot_image : top < dead → (i j : ℕ) → i < 31 → j < 31 → sample_at 31 (spot top a b) (pos 15 +ℤ offset i) (pos 15 +ℤ offset j) ≡ lit i j
  unfolding spot
  spot_image = centred_image lit lit_most

  -- the value at its centre is the weight at its offset times the sample there
  pub spot_value : (t : Table) → Granted t → no_drops (contents t) ≡ true → top < dead → a < 31 → b < 31
      → cut_value t (sample_at 31 (spot top a b)) (pos 15) (pos 15) ≡ weight_at t a b *ℤ pos top
  spot_value t g e m h l =
      let p = side pos_part in
      let n = side neg_part in
      diff_eq (entries t g e (sample_at 31 (spot top a b)) (pos 15) (pos 15)) (diff_scale top (diff_parts (weight_at t a b))) (omega arith)
    where
      side : (part : ℤ → ℕ)
          → sum 31 (λ i. sum 31 (λ j. part (weight_at t i j) * sample_at 31 (spot top a b) (pos 15 +ℤ offset i) (pos 15 +ℤ offset j)))
          ≡ part (weight_at t a b) * top
      side part =
          sum_cong 31 (λ i x. sum_cong 31 (λ j y. ap (λ s. part (weight_at t i j) * s) (spot_image m i j x y)))
          ∙ sum_spot (λ i j. part (weight_at t i j)) h l

  -- ---- how it is stored: zeros, and then the one sample

  module _ (xs : List ℕ) where
    spot_inside : (k : ℕ) → k < 961 → get_or (spot top a b ++ drop 961 xs) k 0 ≡ lit (k / 31) (k % 31)
    unfolding spot
    spot_inside k o =
        let d = div-add-mod k 31 in
        let m = mod-lt k {m = 31} (omega arith) in
        let e : k ≡ k / 31 * 31 + k % 31 = omega arith in
        ap (λ i. get_or (grid 31 31 lit ++ drop 961 xs) i 0) e ∙ grid_at_lem 31 31 lit (drop 961 xs) 0 (k / 31) (k % 31) (omega arith) m

    spot_outside : (k : ℕ) → 961 ≤ k → get_or (spot top a b ++ drop 961 xs) k 0 ≡ get_or xs k 0
    unfolding spot
    spot_outside k o =
        let e : k ≡ 31 * 31 + (k - 961) = omega arith in
        ap (λ i. get_or (grid 31 31 lit ++ drop 961 xs) i 0) e ∙ grid_next 31 31 lit xs (k - 961) ∙ ap (λ i. get_or xs i 0) (sym e)

    spot-length : 961 ≤ length xs → length (spot top a b ++ drop 961 xs) ≡ length xs
    unfolding spot
    spot-length n = grid_long 31 31 lit xs n

    -- a place of the first 961 that is not the lit one
    dark : (k : ℕ) → k ≢ 31 * a + b → lit (k / 31) (k % 31) ≡ 0
    dark k m =
        let d = div-add-mod k 31 in
        elim (ℕ_discrete (k / 31) a) [
          | yes e ↦ rw e (dark_column (k % 31) (λ f. m (omega arith)))
          | no f ↦ dark_row (k / 31) (k % 31) f
        ]

    other : (k : ℕ) → k ≢ 31 * a + b → get_or (zeroed 961 xs) k 0 ≡ get_or (spot top a b ++ drop 961 xs) k 0
    other k m = go (ltb k 961) (ltb→lt k 961) (nltb→le k 961)
      where
        go : (c : Bool) → (T c → k < 961) → (T (not c) → 961 ≤ k) → get_or (zeroed 961 xs) k 0 ≡ get_or (spot top a b ++ drop 961 xs) k 0
        go true f g = pass_done 961 (λ k. 0) xs k 0 (f tt) ∙ sym (dark k m) ∙ sym (spot_inside k (f tt))
        go false f g = pass_next 961 (λ k. 0) xs k 0 (g tt) ∙ sym (spot_outside k (g tt))

    pub spot_stored : a < 31 → b < 31 → 961 ≤ length xs → set (zeroed 961 xs) (31 * a + b) top ≡ spot top a b ++ drop 961 xs
    spot_stored h l n =
        ext_get_or 0 _ _ (length-set (zeroed 961 xs) (31 * a + b) top ∙ pass_length 961 (λ k. 0) xs n ∙ sym (spot-length n)) (λ k o. same k)
      where
        same : (k : ℕ) → get_or (set (zeroed 961 xs) (31 * a + b) top) k 0 ≡ get_or (spot top a b ++ drop 961 xs) k 0
        same k = elim (ℕ_discrete k (31 * a + b)) [
          | yes e ↦
              let z = pass_length 961 (λ k. 0) xs n in
              let d = div-add-mod k 31 in
              let m = mod-lt k {m = 31} (omega arith) in
              let row : k / 31 ≡ a = omega arith in
              let col : k % 31 ≡ b = omega arith in
              ap (λ i. get_or (set (zeroed 961 xs) (31 * a + b) top) i 0) e ∙ get_or-set_same (zeroed 961 xs) (31 * a + b) top 0 (omega arith)
              ∙ sym (spot_inside k (omega arith) ∙ ap₂ lit row col ∙ lit_here)
          | no m ↦ get_or-set_other (zeroed 961 xs) (31 * a + b) k top 0 m ∙ other k m
        ]

-- the one-pixel call takes it
pub spot_taken : (t : Table) (top a b : ℕ) → acceptable t ≡ true → top ≡ 2 ^ t.b - 1
    → pixel_answer t 31 (spot top a b) 15 15 ≡ accepted (pixel_of t (sample_at 31 (spot top a b)) (pos 15) (pos 15) ∷ [])
unfolding pixel_answer pixel_asks width_good height_good place_good
spot_taken t top a b e m =
    all_accepted (pixel_asks t 31 (spot top a b) 15 15) refused _
    (e, (refl, (rw (spot_long top a b) refl, (rw (spot_long top a b) refl, (rw (sym m) (spot_good top a b), tt)))))
