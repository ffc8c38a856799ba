-- Question 10 of a table without drops, exactly: its extremes are the centre values of two scans, and no scan passes them.
-- Assumes nothing.
use Rattle.std.proofs.Common.{ℕ, zero, suc, ◌-◌, ◌*◌, ◌^◌, ◌≤◌, ◌<◌, zero-le, arith, ◌≡◌, refl, sym, ap, ◌∙◌, subst, Bool, true, false, cond, ◌&&◌, List, ◌↔◌, T, ltb, ℤ, pos, negsuc, neg_ℤ, ◌+ℤ◌, length, pow_mono, lt-ltb}
use Rattle.arith.specs.All.{all}
use Rattle.arith.specs.Floor.{floor_div}
use Rattle.arith.specs.Part.{pos_part, neg_part}
use Rattle.arith.specs.Sum.{sum}
use Rattle.arith.specs.Twos.{fits_signed}
use Rattle.arith.proofs.Passes.{length-grid}
use Rattle.arith.proofs.Ints.{diff_pos, diff_neg, diff_eq}
use Rattle.arith.proofs.Sums.{sum_cong, sum_zero, sum_scale}
use Rattle.layout.specs.declared.Table.{Table}
use Rattle.layout.specs.Contents.{contents, rect}
use Rattle.grid.specs.Grid.{offset, grid_at, grid_sum, peak}
use Rattle.limits.specs.Limits.{no_drops, extremes_fit, value_good, shaped}
use Rattle.limits.proofs.Granted.{Granted, shaped_granted}
use Rattle.limits.proofs.Values.{value_by}
use Rattle.rule.specs.Questions.{sample_good}
use Rattle.rule.specs.Sums.{sample_at}
use Rattle.rule.specs.Pixels.{cut_value, pixel_of}
use Rattle.rule.specs.Extremes.{Outside}
use Rattle.rule.proofs.Asked.{has_bits}
use Rattle.rule.proofs.Centred.{centred_good, centred_image}
use Rattle.rule.proofs.Fitting.{entries, value_good_fits}

-- ---- the scan that is as bright as can be where an entry has a part of one sign

module _ (part : ℤ → ℕ) (t : Table) where
  abbrev top : ℕ
  top = 2 ^ t.b - 1

  abbrev entry : (a b : ℕ) → ℤ
  entry a b = grid_at t.count (rect t) a b

  abbrev lit : (a b : ℕ) → ℕ
  lit a b = cond (ltb 0 (part (entry a b))) top 0

  abbrev scan : List ℕ
  scan = peak part top t.count (rect t)

  lit_most : (a b : ℕ) → lit a b ≤ top
  lit_most a b = go (ltb 0 (part (entry a b)))
    where
      go : (c : Bool) → cond c top 0 ≤ top
      go true = omega arith
      go false = zero-le

  peak_good : all (length scan) (sample_good top scan) ≡ true
  unfolding peak
  peak_good = centred_good lit lit_most

  peak_long : length scan ≡ 31 * 31
  unfolding peak
  peak_long = length-grid 31 31 lit

  peak_image : t.b ≤ 12 → (a b : ℕ) → a < 31 → b < 31 → sample_at 31 scan (pos 15 +ℤ offset a) (pos 15 +ℤ offset b) ≡ lit a b
  unfolding peak
  peak_image m = centred_image lit lit_most (let p = pow_mono {j = 12} m in omega arith)

  -- entries of that sign are all lit
  peak_own : t.b ≤ 12 → sum 31 (λ a. sum 31 (λ b. part (entry a b) * sample_at 31 scan (pos 15 +ℤ offset a) (pos 15 +ℤ offset b)))
      ≡ top * grid_sum part t.count (rect t)
  unfolding grid_sum
  peak_own m =
      sum_cong 31 (λ a h.
      sum_cong 31 (λ b l. ap (λ x. part (entry a b) * x) (peak_image m a b h l) ∙ all_lit (part (entry a b)))
      ∙ sum_scale 31 top (λ b. part (entry a b)))
      ∙ sum_scale 31 top (λ a. sum 31 (λ b. part (entry a b)))
    where
      all_lit : (n : ℕ) → n * cond (ltb 0 n) top 0 ≡ top * n
      all_lit zero = omega arith
      all_lit (suc n) = rw (lt-ltb 0 (suc n) (omega arith)) (omega arith)

  -- and those of the other sign are not
  peak_other : (other : ℤ → ℕ) → ((z : ℤ) → other z * cond (ltb 0 (part z)) top 0 ≡ 0) → t.b ≤ 12
      → sum 31 (λ a. sum 31 (λ b. other (entry a b) * sample_at 31 scan (pos 15 +ℤ offset a) (pos 15 +ℤ offset b))) ≡ 0
  peak_other other none m =
      sum_zero 31 (λ a h. sum_zero 31 (λ b l. ap (λ x. other (entry a b) * x) (peak_image m a b h l) ∙ none (entry a b)))

-- ---- the extremes are the centre values of the two scans

module _ (t : Table) (g : Granted t) (e : no_drops (contents t) ≡ true) where
  abbrev at_centre : (part : ℤ → ℕ) → ℤ
  at_centre part = cut_value t (sample_at 31 (scan part t)) (pos 15) (pos 15)

  pub highest : at_centre pos_part ≡ pos ((2 ^ t.b - 1) * grid_sum pos_part t.count (rect t))
  highest =
      let p = peak_own pos_part t g.bits_most in
      let n = peak_other pos_part t neg_part dark g.bits_most in
      diff_eq (entries t g e (sample_at 31 (scan pos_part t)) (pos 15) (pos 15)) (diff_pos ((2 ^ t.b - 1) * grid_sum pos_part t.count (rect t)))
      (omega arith)
    where
      dark : (z : ℤ) → neg_part z * cond (ltb 0 (pos_part z)) (2 ^ t.b - 1) 0 ≡ 0
      dark (pos a) = omega arith
      dark (negsuc a) = omega arith

  pub lowest : at_centre neg_part ≡ neg_ℤ (pos ((2 ^ t.b - 1) * grid_sum neg_part t.count (rect t)))
  lowest =
      let p = peak_other neg_part t pos_part dark g.bits_most in
      let n = peak_own neg_part t g.bits_most in
      diff_eq (entries t g e (sample_at 31 (scan neg_part t)) (pos 15) (pos 15)) (diff_neg ((2 ^ t.b - 1) * grid_sum neg_part t.count (rect t)))
      (omega arith)
    where
      dark : (z : ℤ) → pos_part z * cond (ltb 0 (neg_part z)) (2 ^ t.b - 1) 0 ≡ 0
      dark (pos a) = omega arith
      dark (negsuc a) = omega arith

  outside_by : (part : ℤ → ℕ) → {v : ℤ} → at_centre part ≡ v → fits_signed t.w (floor_div v t.t) ≡ false → Outside t
  unfolding pixel_of
  outside_by part is n =
      record {
        scan = scan part t;
        long = peak_long part t;
        good = peak_good part t;
        outside = ap (λ v. fits_signed t.w (floor_div v t.t)) is ∙ n;
      }

-- M104-3: a table without drops gets 10 exactly when some scan of 31 by 31 samples has a centre pixel outside the word
pub ten_exactly : (t : Table) → shaped (contents t) ≡ true → no_drops (contents t) ≡ true → (value_good (contents t) ≡ false) ↔ Outside t
unfolding extremes_fit
ten_exactly t s e = (some, none)
  where
    g : Granted t
    g = shaped_granted t (subst T (sym s) tt)

    high : Bool
    high = fits_signed t.w (floor_div (pos ((2 ^ t.b - 1) * grid_sum pos_part t.count (rect t))) t.t)

    low : Bool
    low = fits_signed t.w (floor_div (neg_ℤ (pos ((2 ^ t.b - 1) * grid_sum neg_part t.count (rect t)))) t.t)

    either : (x y : Bool) → high ≡ x → low ≡ y → (x && y) ≡ false → Outside t
    either true true h l n = absurd (let z : ◌≡◌ {A = Bool} true false = n in subst T z tt)
    either true false h l n = outside_by t g e neg_part (lowest t g e) l
    either false y h l n = outside_by t g e pos_part (highest t g e) h

    some : value_good (contents t) ≡ false → Outside t
    some n = either high low refl refl (sym (value_by t e) ∙ n)

    none : Outside t → value_good (contents t) ≡ false
    none o = go (value_good (contents t)) refl
      where
        go : (b : Bool) → value_good (contents t) ≡ b → b ≡ false
        go true y =
            absurd (subst T o.outside
            (value_good_fits t g (subst T (sym y) tt) (has_bits t.b 31 o.scan (subst T (sym o.good) tt)) (pos 15) (pos 15)))
        go false y = refl
