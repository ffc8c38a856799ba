-- A word that is read digit by digit.
-- Assumes nothing.
use Rattle.std.proofs.Common.{ℕ, suc, ◌+◌, ◌-◌, ◌*◌, ◌≤◌, ◌<◌, min, arith, ◌≡◌, refl, sym, ap, subst, true, false, List, [], ◌∷◌, T, leb, leb→le, length, get_or, drop, drop_of_length-le, drop-cons, lt-ltb, le-ltb, Some, None}
use Rattle.std.proofs.Math.Facts.{and_yes}
use Rattle.choicetext.specs.Numbers.{digit, all_digits, spells, number_most, number_of}

pub digit_least : (b : ℕ) → digit b ≡ true → 48 ≤ b
unfolding digit
digit_least b e = leb→le 48 b (and_yes (leb 48 b) (leb b 57) (subst T (sym e) tt)).0

module _ (w : List ℕ) (i : ℕ) where
  -- a digit at place i
  pub on_digit : i < length w → digit (get_or w i 0) ≡ true
      → (all_digits (drop i w) ≡ all_digits (drop (suc i) w))
      × ((n : ℕ) → spells n (drop i w) ≡ spells (n * 10 + (get_or w i 0 - 48)) (drop (suc i) w))
  unfolding all_digits spells
  on_digit h e = (rw (drop-cons w i 0 h, e) refl, λ n. rw (drop-cons w i 0 h) refl)

  -- something else
  pub no_digit : i < length w → digit (get_or w i 0) ≡ false → all_digits (drop i w) ≡ false
  unfolding all_digits
  no_digit h e = rw (drop-cons w i 0 h, e) refl

  -- the end
  pub at_end_lem : length w ≤ i → (all_digits (drop i w) ≡ true) × ((n : ℕ) → spells n (drop i w) ≡ n)
  unfolding all_digits spells
  at_end_lem h = (rw (drop_of_length-le w {i = i} h) refl, λ n. rw (drop_of_length-le w {i = i} h) refl)

-- a number held as 10^18 where it is larger goes on alike
pub capped : (w : List ℕ) (m n : ℕ) → min number_most m ≡ min number_most n → min number_most (spells m w) ≡ min number_most (spells n w)
unfolding spells
capped [] m n e = e
capped (b ∷ w) m n e = capped w (m * 10 + (b - 48)) (n * 10 + (b - 48)) (omega arith)

-- the three ways out
pub number_empty : (w : List ℕ) → length w ≡ 0 → None ≡ number_of w
unfolding number_of
number_empty w e = rw (le-ltb 0 (length w) (omega arith)) refl

pub number_other : (w : List ℕ) → 0 < length w → all_digits w ≡ false → None ≡ number_of w
unfolding number_of
number_other w h e = rw (lt-ltb 0 (length w) h, e) refl

pub number_read : (w : List ℕ) {n : ℕ} → 0 < length w → all_digits w ≡ true → n ≡ min number_most (spells 0 w) → Some n ≡ number_of w
unfolding number_of
number_read w h e r = rw (lt-ltb 0 (length w) h, e) (ap Some r)
