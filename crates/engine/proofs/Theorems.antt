-- The theorem on the engine's numbers.
-- Assumes nothing.
use Rattle.std.proofs.Common.{ℕ, ◌-◌, ◌*◌, ◌/◌, ◌^◌, ◌≤◌, ◌<◌, le_refl, le_trans, mul-le-mul, div-le_self, arith, ◌≡◌, sym, subst, ◌∙◌, true, T, pos, pow_mono}
use Rattle.arith.specs.All.{all}
use Rattle.arith.specs.Part.{pos_part, neg_part}
use Rattle.arith.proofs.Alls.{all_at}
use Rattle.arith.proofs.Sums.{sum_bound}
use Rattle.arith.proofs.Ints.{diff_parts, diff_scale, diff_size, diff_sum}
use Rattle.arith.specs.Twos.{fits_signed}
use Rattle.arith.proofs.Words.{mag_fits}
use Rattle.engine.proofs.Biased.{parts_le}
use Rattle.layout.specs.Contents.{rect}
use Rattle.layout.specs.Measure.{cols_of}
use Rattle.limits.specs.Limits.{acceptable}
use Rattle.limits.proofs.Granted.{granted}
use Rattle.rule.specs.Sums.{covered}
use Rattle.layout.proofs.Questions.{AllYes}
use Rattle.arrival.specs.Arrivals.{Arrival, less_sum, new_sum, sum_good, arrival_asks, line_at, window_at, scaled_at, value_at, pixel_at, due_good}
use Rattle.passes.specs.Passes.{part_most}
use Rattle.engine.specs.Words.{WordsFit}
use Rattle.arrival.specs.Rectangles.{sum_limit}
use Rattle.arrival.proofs.Carries.{good_at_lem, most_le}
use Rattle.engine.proofs.Pixels.{due_by}
use Rattle.arrival.proofs.Values.{line_most_lem, scaled_most}

-- an arrival of a table within the limits that passes question 19, whatever the stores held
module _ (v : Arrival) (a : acceptable v.table ≡ true) (y : AllYes (arrival_asks v)) where
  good : (k : ℕ) → k < v.table.count → T (all v.width (sum_good v k))
  unfolding arrival_asks
  good k h = all_at v.table.count (λ k. all v.width (sum_good v k)) (subst T (sym y.0) tt) k h

  last : due_good v ≡ true
  unfolding arrival_asks
  last = y.1.0

  -- a scaled sum is at most 31·31·4,095, and so small is its part of a value
  scaled_small : (k c : ℕ) → k < v.table.count → scaled_at v k c ≤ 3935295
  scaled_small k c h =
      let g = granted v.table a in
      let b = g.bounds k h in
      let q : v.table.q1 ≤ v.table.b = let l = g.q1_less in omega arith in
      let o : 2 ^ v.table.b - 1 ≤ 4095 = let p = pow_mono g.bits_most in omega arith in
      let r = mul-le-mul (mul-le-mul b.rows_most b.cols_most) o in
      let z = scaled_most v k c q (good k h) in
      omega arith

  part_small : (k c : ℕ) → k < v.table.count → (x : ℕ) → x ≤ 32768 → x * scaled_at v k c ≤ part_most
  part_small k c h x l = let m = mul-le-mul l (scaled_small k c h) in omega arith

  -- S6, altered stores included
  pub words_fit : (k c : ℕ) → k < v.table.count → c < v.width → WordsFit v k c
  unfolding window_at new_sum
  words_fit k c h i =
      let t = v.table in
      let d = rect t k in
      let g = granted t a in
      let b = g.bounds k h in
      let q : t.q1 ≤ t.b = let l = g.q1_less in omega arith in
      let m = most_le t k a h in
      let n = (good_at_lem v k (good k h) c i).1 in
      let e = less_le v k c in
      let w =
      sum_bound (cols_of d) sum_limit {f = λ j. line_at v k (covered (pos c) d.trailcol j) / 2 ^ t.q2}
      (λ j l. le_trans (div-le_self _ (2 ^ t.q2)) (le_trans (line_most_lem v k (good k h) _) m)) in
      let f = mul-le-mul b.cols_most (le_refl sum_limit) in
      let z = scaled_small k c h in
      let few = g.few in
      let high = sum_bound t.count part_most {f = λ k. pos_part (rect t k).weight * scaled_at v k c} (λ k l. part_small k c l _ (parts_le (rect t k).weight (g.weight k l)).0) in
      let low = sum_bound t.count part_most {f = λ k. neg_part (rect t k).weight * scaled_at v k c} (λ k l. part_small k c l _ (parts_le (rect t k).weight (g.weight k l)).1) in
      let s = diff_sum t.count (λ k l. diff_scale (scaled_at v k c) (diff_parts (rect t k).weight)) in
      record {
        less = omega arith;
        next = omega arith;
        window = omega arith;
        scaled = omega arith;
        value = mag_fits 64 (value_at v c) (diff_size (2 ^ 63) s (omega arith) (omega arith));
        pixel = λ due. all_at v.width (λ c. fits_signed t.w (pixel_at v c)) (subst T (sym (sym (due_by v due) ∙ last)) tt) c i;
      }
    where
      less_le : (v : Arrival) (k c : ℕ) → less_sum v k c ≤ new_sum v k c
      less_le v k c = omega arith
