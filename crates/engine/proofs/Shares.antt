-- Values of 32 bits: the shares of all rectangles, modulo 2^32, are the value, and its pixel is that of the rule.
-- Assumes nothing.
use Rattle.std.proofs.Common.{ℕ, suc, ◌+◌, ◌*◌, ◌/◌, ◌%◌, ◌^◌, ◌≤◌, ◌<◌, div-one, arith, add-one, ◌≡◌, refl, sym, ap, subst, ◌∙◌, Bool, true, false, cond, List, ◌++◌, T, eqb, eqb→eq, ℤ, pos, negsuc, length, get_or, drop, replicate}
use Rattle.std.proofs.Math.Nat.{mod-add-mod}
use Rattle.std.proofs.Math.ListN.{length-replicate, get_or-replicate}
use Rattle.arith.specs.All.{all}
use Rattle.arith.specs.Floor.{floor_div}
use Rattle.arith.specs.Part.{pos_part, neg_part}
use Rattle.arith.specs.Sum.{sum}
use Rattle.arith.specs.Tab.{tab}
use Rattle.arith.specs.Twos.{fits_signed}
use Rattle.arith.proofs.Ints.{diff_parts, diff_scale, diff_sum}
use Rattle.arith.proofs.Passes.{pass_done, pass_length}
use Rattle.arith.proofs.Residues.{rest_products, signed_rest}
use Rattle.arith.proofs.Sums.{sum-add, sum_cong, sum_scale, sum-suc}
use Rattle.layout.specs.declared.Table.{Table}
use Rattle.layout.specs.Contents.{rect}
use Rattle.layout.specs.Measure.{cols_of}
use Rattle.limits.specs.Limits.{acceptable}
use Rattle.limits.proofs.Granted.{granted}
use Rattle.passes.specs.Passes.{running, rounded_word}
use Rattle.rule.proofs.Fitting.{areas_fit_lem}
use Rattle.arrival.specs.Arrivals.{Arrival, sum_good, window_at, scaled_at, value_at, pixel_at}
use Rattle.arrival.specs.Rectangles.{line_of, place, share_over, factor_of, scale, with_share}
use Rattle.engine.specs.Rows.{shares, Weighed, narrow_table}
use Rattle.arrival.proofs.Places.{reach, within, line_dark, window_at_lem}
use Rattle.arrival.proofs.Values.{scaled_most}
use Rattle.arrival.proofs.Windows.{summed}

-- ---- the accumulator, rectangle by rectangle

pub weighed_none : (v : Arrival) (n : ℕ) → v.width + 16 ≤ n → Weighed v 0 (replicate n 0)
unfolding shares sum
weighed_none v n h =
    record { long = rw (length-replicate {A = ℕ} n 0) h; value = λ i l. get_or-replicate n i 0 0 (omega arith) }

pub weighed_next :
    (v : Arrival) (k : ℕ) {acc acc' : List ℕ} → Weighed v k acc
    → acc' ≡ tab (v.width + 16) (with_share (rect v.table k) v.table.q3 (scale v.table) (line_of v k) acc) ++ drop (v.width + 16) acc
    → Weighed v (k + 1) acc'
unfolding shares
weighed_next v k {acc} {acc'} w is =
    record {
      long = rw (ap length is ∙ pass_length n next acc w.long) w.long;
      value =
          λ i h.
          ap (λ xs. get_or xs i 0) is ∙ pass_done n next acc i 0 h
          ∙ ap (λ a. (a + part i) % 4294967296) (w.value i h)
          ∙ mod-add-mod (shares v k i) 4294967296 (part i)
          ∙ ap (λ a. a % 4294967296) (sym (sum-suc k (λ j. term j i)) ∙ ap (λ m. sum m (λ j. term j i)) (sym (add-one k)));
    }
  where
    n : ℕ
    n = v.width + 16

    next : ℕ → ℕ
    next = with_share (rect v.table k) v.table.q3 (scale v.table) (line_of v k) acc

    term : (j i : ℕ) → ℕ
    term j i =
        factor_of (rect v.table j).weight (scale v.table) * share_over (rect v.table j) v.table.q3 (line_of v j) i

    part : ℕ → ℕ
    part = term k

-- ---- the value

-- a value of all rectangles, modulo 2^32
module _ (v : Arrival) (a : acceptable v.table ≡ true) where
  abbrev weight : ℕ → ℤ
  weight k = (rect v.table k).weight

  abbrev q : ℕ
  q = scale v.table

  -- the truncated windows under their factors
  abbrev weighted : (c : ℕ) → ℕ
  weighted c = sum v.table.count (λ k. factor_of (weight k) q * (window_at v k c / 2 ^ v.table.q3))

  -- the accumulator's place 16 + c, or its running sum there, comes to it
  pub accumulated : (acc : List ℕ) → ((i : ℕ) → i < v.width + 16 → get_or acc i 0 ≡ shares v v.table.count i % 4294967296) → (c : ℕ) → c < v.width
      → cond (eqb v.table.q3 0) (running acc (16 + c)) (get_or acc (16 + c) 0) ≡ weighted c % 4294967296
  unfolding shares share_over
  accumulated acc w c h = go (eqb v.table.q3 0) (eqb→eq v.table.q3 0) refl
    where
      t : Table
      t = v.table

      further : suc (16 + c) ≡ 17 + c
      further = omega arith

      go : (b : Bool) → (T b → t.q3 ≡ 0) → eqb t.q3 0 ≡ b
          → cond b (running acc (16 + c)) (get_or acc (16 + c) 0) ≡ weighted c % 4294967296
      go true z e =
          ap (λ n. sum n (λ i. get_or acc i 0) % 4294967296) further
          ∙ summed t.count (λ k. factor_of (weight k) q) (line_of v) (λ k. place (rect t k).trailcol) (λ k. cols_of (rect t k))
          (λ k l. line_dark v k) (λ k l. within (rect t k) ((granted t a).bounds k l).col) (17 + c) (λ i. get_or acc i 0)
          (λ i l.
          w i (omega arith)
          ∙ ap (λ x. x % 4294967296)
          (sum_cong t.count (λ k m. rw e (ap (λ p. factor_of (weight k) q * (line_of v k (p + i) + 4294967295 * line_of v k (place (rect t k).trailcol + i))) (sym (reach (rect t k) ((granted t a).bounds k m).col))))))
          ∙ ap (λ x. x % 4294967296)
          (sum_cong t.count
          (λ k l.
          ap (λ x. factor_of (weight k) q * x)
          (window_at_lem v k ((granted t a).bounds k l).col c ∙ sym (ap (λ n. window_at v k c / 2 ^ n) (z tt) ∙ div-one (window_at v k c)))))
      go false z e =
          w (16 + c) (omega arith)
          ∙ ap (λ x. x % 4294967296)
          (sum_cong t.count (λ k l. rw (e, further) (ap (λ x. factor_of (weight k) q * (x / 2 ^ t.q3)) (window_at_lem v k ((granted t a).bounds k l).col c))))

  -- the parts of the value above and below 0
  abbrev above : (c : ℕ) → ℕ
  above c = sum v.table.count (λ k. pos_part (weight k) * scaled_at v k c)

  abbrev below : (c : ℕ) → ℕ
  below c = sum v.table.count (λ k. neg_part (weight k) * scaled_at v k c)

  weighted_is : (c : ℕ) → weighted c % 4294967296 ≡ (above c + 4294967295 * below c) % 4294967296
  unfolding factor_of scaled_at
  weighted_is c =
      let n = v.table.count in
      let x : ℕ → ℕ = λ k. window_at v k c / 2 ^ v.table.q3 in
      let s = sum_scale n 4294967295 (λ k. neg_part (weight k) * scaled_at v k c) in
      let p = sum-add n (λ k. pos_part (weight k) * scaled_at v k c) (λ k. 4294967295 * (neg_part (weight k) * scaled_at v k c)) in
      rest_products 4294967296 n (λ k. (pos_part (weight k) + 4294967295 * neg_part (weight k)) * 2 ^ q) x
      ∙ ap (λ y. y % 4294967296) (sum_cong n (λ k h. omega arith) ∙ p ∙ ap (λ y. above c + y) s)

  -- and every value of a narrow table has 32 bits
  value_fits : narrow_table v.table ≡ true → ((k : ℕ) → k < v.table.count → T (all v.width (sum_good v k))) → (c : ℕ)
      → T (fits_signed 32 (value_at v c))
  unfolding narrow_table floor_div
  value_fits e good c =
      let l = (granted v.table a).q1_less in
      subst (λ z. T (fits_signed 32 z)) (no_shift (value_at v c))
      (areas_fit_lem v.table 0 32 (subst T (sym e) tt) (λ k. scaled_at v k c) (λ k h. scaled_most v k c (omega arith) (good k h)))
    where
      no_shift : (z : ℤ) → floor_div z 0 ≡ z
      no_shift (pos n) = ap pos (div-one n)
      no_shift (negsuc n) = ap negsuc (div-one n)

  -- so the pixel is that of the rule
  pub narrow_pixel : narrow_table v.table ≡ true → ((k : ℕ) → k < v.table.count → T (all v.width (sum_good v k)))
      → (acc : List ℕ) → ((i : ℕ) → i < v.width + 16 → get_or acc i 0 ≡ shares v v.table.count i % 4294967296) → (c : ℕ) → c < v.width
      → rounded_word (cond (eqb v.table.q3 0) (running acc (16 + c)) (get_or acc (16 + c) 0)) v.table.t ≡ pixel_at v c
  unfolding pixel_at
  narrow_pixel e good acc w c h =
      let s = diff_sum v.table.count (λ k l. diff_scale (scaled_at v k c) (diff_parts (weight k))) in
      ap (λ x. rounded_word x v.table.t) (accumulated acc w c h ∙ weighted_is c)
      ∙ ap (λ z. floor_div z v.table.t) (signed_rest (value_at v c) s (value_fits e good c))
