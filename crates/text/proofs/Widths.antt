-- How long the lines of a text are.
-- Assumes nothing.
use Prim.Native.Nat.{ℕ, zero, suc, ◌≤◌}
use native.Mathlib.Omega.{arith}
use mathlib.Core.Path.{◌≡◌, refl}
use mathlib.Core.Bool.{Bool, true, false, cond, false≢true}
use mathlib.Core.List.{List, [], ◌∷◌}
use lib.Dec.{eqb}
use lib.ListN.{length, drop, length-take}
use Rattle.text.specs.Ascii.{line_length, after_line, line}

-- no line has more than `most` bytes, the first not more than `left`: a test that computes
unfoldable pub narrow : (most left : ℕ) → List ℕ → Bool
narrow most left [] = true
narrow most zero (b ∷ text) = cond (eqb b 10) (narrow most most text) false
narrow most (suc left) (b ∷ text) = cond (eqb b 10) (narrow most most text) (narrow most left text)

first_line : (most left : ℕ) (text : List ℕ) → narrow most left text ≡ true → line_length text ≤ left
unfolding narrow line_length
first_line most left [] e = omega arith
first_line most zero (b ∷ text) e = go (eqb b 10) e
  where
    go : (t : Bool) → cond t (narrow most most text) false ≡ true → cond t 0 (suc (line_length text)) ≤ 0
    go true f = omega arith
    go false f = absurd (false≢true f)
first_line most (suc left) (b ∷ text) e = go (eqb b 10) e (first_line most left text)
  where
    go : (t : Bool) → cond t (narrow most most text) (narrow most left text) ≡ true → (narrow most left text ≡ true → line_length text ≤ left)
        → cond t 0 (suc (line_length text)) ≤ suc left
    go true f h = omega arith
    go false f h = let k = h f in omega arith

other_lines : (most left : ℕ) (text : List ℕ) → narrow most left text ≡ true → narrow most most (drop (suc (line_length text)) text) ≡ true
unfolding narrow line_length
other_lines most left [] e = refl
other_lines most zero (b ∷ text) e = go (eqb b 10) e
  where
    go : (t : Bool) → cond t (narrow most most text) false ≡ true → narrow most most (drop (cond t 0 (suc (line_length text))) text) ≡ true
    go true f = f
    go false f = absurd (false≢true f)
other_lines most (suc left) (b ∷ text) e = go (eqb b 10) e (other_lines most left text)
  where
    go : (t : Bool) → cond t (narrow most most text) (narrow most left text) ≡ true
        → (narrow most left text ≡ true → narrow most most (drop (suc (line_length text)) text) ≡ true)
        → narrow most most (drop (cond t 0 (suc (line_length text))) text) ≡ true
    go true f h = f
    go false f h = h f

-- then every line is as short
pub line-narrow : (most : ℕ) (text : List ℕ) (k : ℕ) → narrow most most text ≡ true → length (line k text) ≤ most
unfolding line after_line
line-narrow most text zero e = let h = first_line most most text e in let l = length-take (line_length text) text in omega arith
line-narrow most text (suc k) e = line-narrow most (drop (suc (line_length text)) text) k (other_lines most most text e)
