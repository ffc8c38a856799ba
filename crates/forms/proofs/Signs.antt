-- A size with a sign in a signed word.
-- Assumes nothing.
use Rattle.std.proofs.Common.{ℕ, zero, suc, min, arith, ◌≡◌, sym, ◌∙◌, Bool, true, false, cond, leb, ltb, leb→le, le→leb, ltb→lt, lt→ltb, pos, negsuc, FitsSigned, w16}
use Rattle.std.proofs.lemmas.Int.{ints}
use Rattle.arith.specs.Twos.{fits_signed}
use Rattle.arith.proofs.Bools.{bool_eq}
use Rattle.arith.proofs.Words.{fits_size}
use Rattle.words.specs.Words.{with_sign}

-- whether a size with a sign fits 16 bits
pub fits_word : (m : Bool) (s : ℕ) → fits_signed 16 (with_sign m s) ≡ cond m (leb s 32768) (ltb s 32768)
unfolding with_sign
fits_word false s = fits_size 16 (pos s)
fits_word true zero = fits_size 16 (pos 0)
fits_word true (suc s) = fits_size 16 (negsuc s) ∙ bool_eq _ _ (λ t. omega (arith, ltb→lt, le→leb)) (λ t. omega (arith, leb→le, lt→ltb))

-- a size held at 65,536 fits alike
pub held_neg : (s : ℕ) → leb (min 65536 s) 32768 ≡ leb s 32768
held_neg s = bool_eq _ _ (λ t. omega (arith, leb→le, le→leb)) (λ t. omega (arith, leb→le, le→leb))

pub held_pos : (s : ℕ) → ltb (min 65536 s) 32768 ≡ ltb s 32768
held_pos s = bool_eq _ _ (λ t. omega (arith, ltb→lt, lt→ltb)) (λ t. omega (arith, ltb→lt, lt→ltb))

pub held_fits : (m : Bool) (s : ℕ) → leb (min 65536 s) (cond m 32768 32767) ≡ fits_signed 16 (with_sign m s)
held_fits true s = held_neg s ∙ sym (fits_word true s)
held_fits false s = below (min 65536 s) ∙ held_pos s ∙ sym (fits_word false s)
  where
    below : (n : ℕ) → leb n 32767 ≡ ltb n 32768
    below n = bool_eq _ _ (λ t. omega (arith, leb→le, lt→ltb)) (λ t. omega (arith, ltb→lt, le→leb))

-- a weight that is held has 16 bits
pub weight_in : (m : Bool) (s : ℕ) → FitsSigned w16 (with_sign m (min (cond m 32768 32767) s))
unfolding with_sign
weight_in true s = omega (arith, ints)
weight_in false s = omega (arith, ints)

-- a size held at 65,536 is held alike
pub hold : (m : Bool) (s : ℕ) → min (cond m 32768 32767) (min 65536 s) ≡ min (cond m 32768 32767) s
hold true s = omega arith
hold false s = omega arith
