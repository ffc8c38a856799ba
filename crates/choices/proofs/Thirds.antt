-- Choices that differ in q3 only.
-- Assumes nothing.
use Rattle.std.proofs.Common.{ℕ, ◌+◌, ◌*◌, ◌/◌, ◌%◌, ◌≤◌, ◌<◌, mod-lt, mul-le-mul_left, arith, ◌≡◌, refl, sym, ap, subst, true, ◌&&◌, T, leb, ltb, ℤ}
use Rattle.std.proofs.Math.Nat.{div-add-mod}
use Rattle.std.proofs.Math.Facts.{and_yes, yes_and}
use Rattle.arith.specs.Part.{pos_part, neg_part}
use Rattle.arith.proofs.Bools.{true_of}
use Rattle.arith.proofs.Sums.{sum_mono}
use Rattle.layout.specs.declared.Rect.{Rect}
use Rattle.layout.specs.declared.Table.{Table}
use Rattle.layout.specs.Contents.{contents, rect}
use Rattle.layout.specs.Measure.{column_word, window_word, loss_figure}
use Rattle.limits.specs.Limits.{bits_good, drops_good, extreme, value_good, areas_good, shaped, within, acceptable}
use Rattle.limits.proofs.Values.{areas_suffice, drops_some}
use Rattle.rule.specs.Accuracy.{loss_under}
use Rattle.figures.specs.Measured.{sums_bits, pixels_above, pixels_below}
use Rattle.figures.proofs.Ceilings.{ceil_mono}
use Rattle.choices.specs.Choices.{with_drops}
use Rattle.choices.specs.Front.{no_third}

-- the three drops of the choice without q3
module _ (i : ℕ) where
  nine : i ≡ i / 9 * 9 + i % 9
  nine = let d = div-add-mod i 9 in omega arith

  pub first_same : no_third i / 81 ≡ i / 81
  first_same =
      let a = div-add-mod i 9 in
      let b = mod-lt i {m = 9} (omega arith) in
      let c = div-add-mod i 81 in
      let d = mod-lt i {m = 81} (omega arith) in
      let e = div-add-mod (i / 9 * 9) 81 in
      let f = mod-lt (i / 9 * 9) {m = 81} (omega arith) in
      omega arith

  quotient_same : no_third i / 9 ≡ i / 9
  quotient_same =
      let e = div-add-mod (i / 9 * 9) 9 in
      let f = mod-lt (i / 9 * 9) {m = 9} (omega arith) in
      omega arith

  pub second_same : no_third i / 9 % 9 ≡ i / 9 % 9
  second_same = ap (λ k. k % 9) quotient_same

  pub third_none : no_third i % 9 ≡ 0
  third_none =
      let e = div-add-mod (i / 9 * 9) 9 in
      let f = mod-lt (i / 9 * 9) {m = 9} (omega arith) in
      omega arith

  pub third_less : no_third i ≤ i
  third_less = let n = nine in omega arith

module _ (t : Table) (i : ℕ) where
  -- the bits of the sums do not depend on q3
  pub sums_same : (l : ℕ) → sums_bits (with_drops t (no_third i)) l ≡ sums_bits (with_drops t i) l
  unfolding sums_bits column_word window_word
  sums_same l = rw (first_same i, second_same i) refl

  -- and the loss figures grow with it
  loss_less : (d : Rect) → loss_figure (with_drops t (no_third i)) d ≤ loss_figure (with_drops t i) d
  unfolding loss_figure
  loss_less d = rw (first_same i, second_same i, third_none i) (omega arith)

  under_less : (part : ℤ → ℕ) → loss_under part (with_drops t (no_third i)) ≤ loss_under part (with_drops t i)
  unfolding loss_under
  under_less part = sum_mono t.count (λ k h. mul-le-mul_left (part (rect t k).weight) (loss_less (rect t k)))

  pub above_less : pixels_above (with_drops t (no_third i)) ≤ pixels_above (with_drops t i)
  unfolding pixels_above
  above_less = ceil_mono t.t (under_less pos_part)

  pub below_less : pixels_below (with_drops t (no_third i)) ≤ pixels_below (with_drops t i)
  unfolding pixels_below
  below_less = ceil_mono t.t (under_less neg_part)

-- ---- what is accepted with q3 is accepted without

-- where bits are dropped, question 10 goes by the areas
value_areas : (t : Table) (i : ℕ) → 0 < i % 9 → T (value_good (contents (with_drops t i))) → T (areas_good (contents (with_drops t i)))
unfolding value_good extreme areas_good
value_areas t i h y = rw (drops_some (contents (with_drops t i)) (omega arith)) at y

drops_less : (b i : ℕ) → T (drops_good b (i / 81) (i / 9 % 9) (i % 9)) → T (drops_good b (no_third i / 81) (no_third i / 9 % 9) (no_third i % 9))
unfolding drops_good
drops_less b i y =
    let p = and_yes (ltb (i / 81) b) (leb (i / 9 % 9) 8 && leb (i % 9) 8) y in
    let q = and_yes (leb (i / 9 % 9) 8) (leb (i % 9) 8) p.1 in
    rw (first_same i, second_same i, third_none i) (yes_and (ltb (i / 81) b) _ p.0 (yes_and (leb (i / 9 % 9) 8) _ q.0 tt))

shaped_less : (t : Table) (i : ℕ) → T (shaped (contents (with_drops t i))) → T (shaped (contents (with_drops t (no_third i))))
unfolding shaped
shaped_less t i y =
    let p = and_yes (bits_good t.b) _ y in
    let q = and_yes (drops_good t.b (i / 81) (i / 9 % 9) (i % 9)) _ p.1 in
    yes_and (bits_good t.b) _ p.0 (yes_and (drops_good t.b (no_third i / 81) (no_third i / 9 % 9) (no_third i % 9)) _ (drops_less t.b i q.0) q.1)

-- the areas do not depend on the drops
areas_same : (t : Table) (i j : ℕ) → T (areas_good (contents (with_drops t i))) → T (areas_good (contents (with_drops t j)))
unfolding areas_good
areas_same t i j y = y

pub accepted_less : (t : Table) (i : ℕ) → 0 < i % 9 → acceptable (with_drops t i) ≡ true → acceptable (with_drops t (no_third i)) ≡ true
unfolding acceptable within
accepted_less t i h e =
    let p = and_yes (shaped (contents (with_drops t i))) _ (subst T (sym e) tt) in
    true_of _
    (yes_and (shaped (contents (with_drops t (no_third i)))) _ (shaped_less t i p.0)
    (areas_suffice (contents (with_drops t (no_third i))) (areas_same t i (no_third i) (value_areas t i h p.1))))
