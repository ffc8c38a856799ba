-- Values of 64 bits, each above its bias: rectangle by rectangle, and their pixels.
-- Assumes nothing.
use Rattle.std.proofs.Common.{ℕ, ◌+◌, ◌-◌, ◌*◌, ◌^◌, ◌≤◌, ◌<◌, zero-le, arith, add-one, mul-le-mul, ◌≡◌, refl, ap, ◌∙◌, true, List, ◌++◌, T, ℤ, pos, negsuc, ◌*ℤ◌, length, get_or, drop, replicate, pow_mono}
use Rattle.std.proofs.Math.ListN.{length-replicate, get_or-replicate}
use Rattle.arith.specs.All.{all}
use Rattle.arith.specs.Diff.{Diff}
use Rattle.arith.specs.Floor.{floor_div}
use Rattle.arith.specs.Part.{pos_part, neg_part}
use Rattle.arith.specs.Sum.{sum_ℤ}
use Rattle.arith.specs.Tab.{tab}
use Rattle.arith.specs.Twos.{fits_signed}
use Rattle.arith.proofs.Ints.{diff_add, diff_eq, diff_parts, diff_scale, diff_shift, diff_sub, sum_ℤ-suc}
use Rattle.arith.proofs.Passes.{pass_done, pass_length}
use Rattle.arith.proofs.Words.{fits_mag}
use Rattle.layout.specs.Contents.{rect}
use Rattle.limits.specs.Limits.{acceptable}
use Rattle.limits.proofs.Granted.{granted}
use Rattle.passes.specs.Passes.{bias, rounded, value_most, part_most, scaled_end}
use Rattle.arrival.specs.Arrivals.{Arrival, sum_good, scaled_at, pixel_at}
use Rattle.arrival.specs.Rectangles.{with_part, ValuesFit}
use Rattle.engine.specs.Rows.{Summed}
use Rattle.arrival.proofs.Values.{scaled_most}

pub parts_le : (z : ℤ) → T (fits_signed 16 z) → (pos_part z ≤ 32768) × (neg_part z ≤ 32768)
parts_le (pos n) t = let m = fits_mag 16 (pos n) t in (omega arith, zero-le)
parts_le (negsuc n) t = let m = fits_mag 16 (negsuc n) t in (zero-le, omega arith)

-- the scaled sum that a rectangle adds is below 2^22
scaled_lt :
    (v : Arrival) (k : ℕ) → acceptable v.table ≡ true → k < v.table.count → T (all v.width (sum_good v k))
    → (c : ℕ) → scaled_at v k c < scaled_end
scaled_lt v k e h good c =
    let g = granted v.table e in
    let b = g.bounds k h in
    let q : v.table.q1 ≤ v.table.b = let l = g.q1_less in omega arith in
    let p : 2 ^ v.table.b - 1 ≤ 4095 = let m = pow_mono g.bits_most in omega arith in
    let m = mul-le-mul (mul-le-mul b.rows_most b.cols_most) p in
    let s = scaled_most v k c q good in
    omega arith

few_below : (v : Arrival) (k : ℕ) → acceptable v.table ≡ true → k < v.table.count → k ≤ 15
few_below v k e h = let f = (granted v.table e).few in omega arith

-- no rectangle yet
pub summed_none : (v : Arrival) (n : ℕ) → v.width ≤ n → Summed v 0 (replicate n bias)
unfolding sum_ℤ
summed_none v n l =
    let e : (c : ℕ) → c < v.width → ◌≡◌ {A = ℕ} (get_or (replicate n bias) c 0) bias = λ c h. get_or-replicate n c bias 0 (omega arith) in
    record {
      long = rw (length-replicate {A = ℕ} n bias) l;
      value = λ c h. rw (e c h) (record { is = refl });
      low = λ c h. rw (e c h) (omega arith);
      high = λ c h. rw (e c h) (omega arith);
    }

-- the values leave room for a rectangle more
pub summed_room : (v : Arrival) (k : ℕ) → acceptable v.table ≡ true → k < v.table.count → {acc : List ℕ} → Summed v k acc → ValuesFit v.width acc
summed_room v k e h w =
    let f = few_below v k e h in
    record {
      acc_long = w.long;
      value_least = λ c p. let a = w.low c p in omega arith;
      value_at_most = λ c p. let b = w.high c p in omega arith;
    }

-- the values with the part of rectangle k
module _
    (v : Arrival) (k : ℕ) (e : acceptable v.table ≡ true) (h : k < v.table.count) (good : T (all v.width (sum_good v k)))
    {acc : List ℕ} (w : Summed v k acc) where
  abbrev next : ℕ → ℕ
  next c = with_part v k acc c

  above_le : (c : ℕ) → pos_part (rect v.table k).weight * scaled_at v k c ≤ part_most
  above_le c =
      let s : scaled_at v k c ≤ scaled_end = let s = scaled_lt v k e h good c in omega arith in
      mul-le-mul (parts_le _ ((granted v.table e).weight k h)).0 s

  below_le : (c : ℕ) → neg_part (rect v.table k).weight * scaled_at v k c ≤ part_most
  below_le c =
      let s : scaled_at v k c ≤ scaled_end = let s = scaled_lt v k e h good c in omega arith in
      mul-le-mul (parts_le _ ((granted v.table e).weight k h)).1 s

  next_value : (c : ℕ) → c < v.width → Diff (sum_ℤ (k + 1) (λ i. (rect v.table i).weight *ℤ pos (scaled_at v i c))) (next c) bias
  next_value c p =
      let o = w.low c p in
      let b = below_le c in
      let f = few_below v k e h in
      rw (add-one k, sum_ℤ-suc k)
      (diff_shift (diff_add (w.value c p) (diff_scale (scaled_at v k c) (diff_parts (rect v.table k).weight))) (omega arith))

  next_low : (c : ℕ) → c < v.width → bias ≤ next c + (k + 1) * part_most
  next_low c p = let o = w.low c p in let b = below_le c in let f = few_below v k e h in omega arith

  next_high : (c : ℕ) → c < v.width → next c ≤ bias + (k + 1) * part_most
  next_high c p = let o = w.high c p in let a = above_le c in omega arith

  pub summed_next : {acc' : List ℕ} → acc' ≡ tab v.width next ++ drop v.width acc → Summed v (k + 1) acc'
  summed_next {acc'} is =
      record {
        long = rw (ap length is ∙ pass_length v.width next acc w.long) w.long;
        value = λ c p. rw (at c p) (next_value c p);
        low = λ c p. rw (at c p) (next_low c p);
        high = λ c p. rw (at c p) (next_high c p);
      }
    where
      at : (c : ℕ) → c < v.width → get_or acc' c 0 ≡ next c
      at c p = ap (λ xs. get_or xs c 0) is ∙ pass_done v.width next acc c 0 p

-- the pixel of a complete value is that of the rule
pub wide_pixel : (v : Arrival) {acc : List ℕ} → Summed v v.table.count acc → (c : ℕ) → c < v.width
    → rounded (get_or acc c 0) v.table.t ≡ pixel_at v c
unfolding pixel_at
wide_pixel v {acc} w c h = ap (λ z. floor_div z v.table.t) (diff_eq (diff_sub (get_or acc c 0) bias) (w.value c h) refl)

-- and the values have room in their words
pub wide_most : (v : Arrival) {acc : List ℕ} → acceptable v.table ≡ true → Summed v v.table.count acc → (c : ℕ) → c < v.width
    → get_or acc c 0 ≤ value_most
wide_most v a w c h = let f = (granted v.table a).few in let l = w.high c h in omega arith
