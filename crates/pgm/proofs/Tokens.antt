-- Gaps and numbers, a byte at a time.
-- Assumes nothing.
use Rattle.std.proofs.Common.{ℕ, suc, ◌+◌, ◌-◌, ◌*◌, ◌≤◌, ◌<◌, min, arith, ◌≡◌, refl, sym, subst, T, leb, leb→le, Bool, true, false, cond, List, [], ◌∷◌, length, get_or, drop, drop_of_length-le, drop-cons}
use Rattle.std.proofs.Math.Facts.{and_yes}
use Rattle.pgm.specs.Grammar.{digit, in_gap, in_comment, gap, digits, number}

module _ (xs : List ℕ) (i : ℕ) where
  -- the gap goes on over a byte
  pub gap_on :
      (comment : Bool) → i < length xs → in_gap comment (get_or xs i 0) ≡ true
      → gap comment (drop i xs) ≡ suc (gap (in_comment comment (get_or xs i 0)) (drop (suc i) xs))
  unfolding gap
  gap_on comment h e = rw (drop-cons xs i 0 h, e)

  -- it ends before a byte
  pub gap_ends : (comment : Bool) → i < length xs → in_gap comment (get_or xs i 0) ≡ false → gap comment (drop i xs) ≡ 0
  unfolding gap
  gap_ends comment h e = rw (drop-cons xs i 0 h, e)

  -- it ends with the bytes
  pub gap_none : (comment : Bool) → length xs ≤ i → gap comment (drop i xs) ≡ 0
  unfolding gap
  gap_none comment h = rw (drop_of_length-le xs {i = i} h)

  -- the number goes on over a digit
  pub number_on :
      (n : ℕ) → i < length xs → digit (get_or xs i 0) ≡ true
      → (number n (drop i xs) ≡ number (n * 10 + (get_or xs i 0 - 48)) (drop (suc i) xs)) × (digits (drop i xs) ≡ suc (digits (drop (suc i) xs)))
  unfolding number digits
  number_on n h e = rw (drop-cons xs i 0 h, e) (refl, refl)

  pub number_ends :
      (n : ℕ) → i < length xs → digit (get_or xs i 0) ≡ false → (number n (drop i xs) ≡ n) × (digits (drop i xs) ≡ 0)
  unfolding number digits
  number_ends n h e = rw (drop-cons xs i 0 h, e) (refl, refl)

  pub number_none : (n : ℕ) → length xs ≤ i → (number n (drop i xs) ≡ n) × (digits (drop i xs) ≡ 0)
  unfolding number digits
  number_none n h = rw (drop_of_length-le xs {i = i} h) (refl, refl)

-- what is above 65,536 may be held as 65,536
pub capped : (bs : List ℕ) (m n : ℕ) → min 65536 m ≡ min 65536 n → min 65536 (number m bs) ≡ min 65536 (number n bs)
unfolding number
capped [] m n e = e
capped (b ∷ bs) m n e = go (digit b) (capped bs (m * 10 + (b - 48)) (n * 10 + (b - 48)) (omega arith))
  where
    go :
        (d : Bool) → min 65536 (number (m * 10 + (b - 48)) bs) ≡ min 65536 (number (n * 10 + (b - 48)) bs)
        → min 65536 (cond d (number (m * 10 + (b - 48)) bs) m) ≡ min 65536 (cond d (number (n * 10 + (b - 48)) bs) n)
    go true h = h
    go false h = e

-- a digit's byte is at least that of 0
pub digit_from : (b : ℕ) → digit b ≡ true → 48 ≤ b
unfolding digit
digit_from b e = leb→le 48 b (and_yes (leb 48 b) (leb b 57) (subst T (sym e) tt)).0
