-- A rectangle whose question 19 holds: its line is one that the passes ask for, and what they make of it is its part of the values.
-- Assumes nothing.
use Rattle.std.proofs.Common.{ℕ, ◌+◌, ◌*◌, ◌/◌, ◌^◌, ◌≤◌, ◌<◌, le_trans, le_of_eq, arith, ◌≡◌, refl, ap, ◌∙◌, true, List, ◌++◌, T, get_or, drop}
use Rattle.arith.specs.All.{all}
use Rattle.arith.specs.Part.{pos_part, neg_part}
use Rattle.arith.specs.Tab.{tab}
use Rattle.arith.proofs.Tabs.{tab_cong}
use Rattle.layout.specs.declared.Rect.{Rect}
use Rattle.layout.specs.Contents.{rect}
use Rattle.limits.specs.Limits.{acceptable}
use Rattle.limits.proofs.Granted.{granted}
use Rattle.passes.specs.Passes.{plus}
use Rattle.arrival.specs.Arrivals.{Arrival, sum_good, scaled_at}
use Rattle.arrival.specs.Rectangles.{line_of, scale, with_share, with_line, with_part, ZeroPadded, LineFits}
use Rattle.arrival.proofs.Alike.{same_window, same_share}
use Rattle.arrival.proofs.Places.{window_at_lem, line_le, place_le, window_le}

module _
    (v : Arrival) (k : ℕ) (a : acceptable v.table ≡ true) (h : k < v.table.count) (line : List ℕ)
    (is : (i : ℕ) → get_or line i 0 ≡ line_of v k i) where
  abbrev d : Rect
  d = rect v.table k

  pub line_fits : T (all v.width (sum_good v k)) → v.width ≤ 1024 → ZeroPadded v.width line
      → LineFits d v.table.q3 (scale v.table) v.width line
  line_fits good wide padded =
      let g = granted v.table a in
      let b = g.bounds k h in
      let q1 = g.q1_less in
      let bits = g.bits_most in
      let q2 = g.q2_most in
      let q3 = g.q3_most in
      let le : (i : ℕ) → get_or line i 0 ≤ _ = λ i. le_trans (le_of_eq (is i)) (line_le v k good i) in
      record {
        edges = g.edges k h;
        weight = g.weight k h;
        q3_most = q3;
        q_most = omega arith;
        width_most = wide;
        padded = padded;
        small = λ i. le_trans (le i) (place_le v.table d q1 bits b.rows_most);
        window = λ s. window_le v.table d (λ i. get_or line i 0) s q1 bits b.rows_most b.cols_most le;
      }

  -- values of 32 bits with its share
  pub shared : (acc : List ℕ)
      → tab (v.width + 16) (with_share d v.table.q3 (scale v.table) (λ i. get_or line i 0) acc) ++ drop (v.width + 16) acc
      ≡ tab (v.width + 16) (with_share d v.table.q3 (scale v.table) (line_of v k) acc) ++ drop (v.width + 16) acc
  shared acc =
      ap (λ xs. xs ++ drop (v.width + 16) acc)
      (tab_cong (v.width + 16) (λ i l. rw (same_share d is v.table.q3 i) refl))

  -- values of 64 bits with its part
  pub parted : (acc : List ℕ)
      → tab v.width (with_line d v.table.q3 (scale v.table) (λ i. get_or line i 0) acc) ++ drop v.width acc
      ≡ tab v.width (with_part v k acc) ++ drop v.width acc
  unfolding scaled_at
  parted acc =
      ap (λ xs. xs ++ drop v.width acc)
      (tab_cong v.width
      (λ c l.
      ap (λ x. plus (get_or acc c 0) (pos_part d.weight) (neg_part d.weight) (x / 2 ^ v.table.q3 * 2 ^ scale v.table))
      (same_window d is (17 + c) ∙ window_at_lem v k ((granted v.table a).bounds k h).col c)))
