-- The pixels of complete values, of 32 or of 64 bits, are those of the rule; and which of them surely fit their words.
-- Assumes nothing.
use Rattle.std.proofs.Common.{ℕ, ◌≤◌, ◌<◌, arith, ◌≡◌, refl, sym, ap, subst, ◌∙◌, Bool, true, false, ◌||◌, T, ltb, lt-ltb, le-ltb}
use Rattle.arith.specs.All.{all}
use Rattle.arith.specs.Twos.{fits_signed}
use Rattle.arith.proofs.Alls.{all_of}
use Rattle.arith.proofs.Bools.{true_of, or-true}
use Rattle.layout.specs.Contents.{contents}
use Rattle.layout.specs.Measure.{delay_of}
use Rattle.limits.specs.Limits.{no_drops, acceptable}
use Rattle.limits.proofs.Granted.{granted, granted_value}
use Rattle.limits.proofs.Values.{value_by}
use Rattle.rule.proofs.Fitting.{areas_fit_lem}
use Rattle.arrival.specs.Arrivals.{Arrival, sum_good, scaled_at, pixel_at, due_good}
use Rattle.engine.specs.Rows.{sure_table}
use Rattle.arrival.proofs.Values.{scaled_most}

-- where the extremes by the areas fit the pixel word, so does every pixel
pub sure_pixel :
    (v : Arrival) → acceptable v.table ≡ true → ((k : ℕ) → k < v.table.count → T (all v.width (sum_good v k)))
    → sure_table v.table ≡ true → (c : ℕ) → T (fits_signed v.table.w (pixel_at v c))
unfolding pixel_at sure_table
sure_pixel v a good s c =
    let t = v.table in
    let l = (granted t a).q1_less in
    areas_fit_lem t t.t t.w (subst T (sym s) tt) (λ k. scaled_at v k c) (λ k h. scaled_most v k c (omega arith) (good k h))

-- the last of question 19, of a row that is due, by its pixels
module _ (v : Arrival) where
  pub not_due : v.number < delay_of v.table → due_good v ≡ true
  unfolding due_good
  not_due h = rw (lt-ltb v.number (delay_of v.table) h) refl

  pub due_by : delay_of v.table ≤ v.number → due_good v ≡ all v.width (λ c. fits_signed v.table.w (pixel_at v c))
  unfolding due_good
  due_by h = rw (le-ltb v.number (delay_of v.table) h) refl

  -- it is never answered no where all pixels surely fit
  pub surely_due : acceptable v.table ≡ true → ((k : ℕ) → k < v.table.count → T (all v.width (sum_good v k)))
      → sure_table v.table ≡ true → due_good v ≡ true
  unfolding due_good
  surely_due a good s =
      let f : ℕ → Bool = λ c. fits_signed v.table.w (pixel_at v c) in
      ap (λ b. ltb v.number (delay_of v.table) || b) (true_of (all v.width f) (all_of v.width f (λ c h. sure_pixel v a good s c)))
      ∙ or-true (ltb v.number (delay_of v.table))

  -- M104-7: and so of no table with drops
  pub drops_never : acceptable v.table ≡ true → no_drops (contents v.table) ≡ false
      → ((k : ℕ) → k < v.table.count → T (all v.width (sum_good v k))) → due_good v ≡ true
  unfolding sure_table
  drops_never a d good =
      surely_due a good (true_of _ (subst T (value_by v.table d) (granted_value v.table a)))
