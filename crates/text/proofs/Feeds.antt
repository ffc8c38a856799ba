-- Lines of a text, a byte at a time.
-- Assumes nothing.
use Prim.Native.Nat.{ℕ, zero, suc, ◌+◌, ◌-◌, ◌≤◌, ◌<◌}
use native.Mathlib.Omega.{arith}
use mathlib.Core.Path.{◌≡◌, sym, ap, ◌∙◌}
use mathlib.Core.Bool.{true, false}
use mathlib.Core.List.{List}
use lib.Dec.{eqb}
use lib.ListN.{length, get_or, take, drop, drop_of_length-le}
use lib.Seq.{drop-cons, drop-drop}
use Rattle.text.specs.Ascii.{line_length, after_line, line, IsLine}

module _ (xs : List ℕ) (i : ℕ) where
  -- the line goes on over a byte
  pub line_on : i < length xs → eqb (get_or xs i 0) 10 ≡ false → line_length (drop i xs) ≡ suc (line_length (drop (suc i) xs))
  unfolding line_length
  line_on h e = rw (drop-cons xs i 0 h, e)

  -- it ends before a line feed
  pub line_ends : i < length xs → eqb (get_or xs i 0) 10 ≡ true → line_length (drop i xs) ≡ 0
  unfolding line_length
  line_ends h e = rw (drop-cons xs i 0 h, e)

  -- it ends with the text
  pub line_none : length xs ≤ i → line_length (drop i xs) ≡ 0
  unfolding line_length
  line_none h = rw (drop_of_length-le xs {i = i} h)

-- the place after the line feed, or the end of the text
pub after_feed : (xs : List ℕ) (at end : ℕ) → end ≡ at + line_length (drop at xs) → drop (end + 1) xs ≡ after_line (drop at xs)
unfolding after_line
after_feed xs at end e =
    let k : end + 1 ≡ at + suc (line_length (drop at xs)) = omega arith in
    ap (λ n. drop n xs) k ∙ sym (drop-drop (suc (line_length (drop at xs))) at xs)

pub at_end_lem : (xs : List ℕ) (at end : ℕ) → end ≡ at + line_length (drop at xs) → length xs ≤ end → drop end xs ≡ after_line (drop at xs)
at_end_lem xs at end e h =
    drop_of_length-le xs {i = end} h ∙ sym (drop_of_length-le xs {i = end + 1} (omega arith)) ∙ after_feed xs at end e

-- one line is passed
pub line_step : (left : ℕ) (text : List ℕ) → 0 < left → line left text ≡ line (left - 1) (after_line text)
unfolding line
line_step zero text h = absurd (omega arith)
line_step (suc left) text h = let e : suc left - 1 ≡ left = omega arith in ap (λ n. line n (after_line text)) (sym e)

-- the line is found
pub line_found :
    (xs : List ℕ) (k left start end : ℕ) → left ≤ 0 → start ≤ length xs → line left (drop start xs) ≡ line k xs
    → end ≡ start + line_length (drop start xs) → end ≤ length xs → IsLine xs k start end
unfolding line
line_found xs k zero start end z h e f l =
    let d : end - start ≡ line_length (drop start xs) = omega arith in
    record { forth = omega arith; within = l; is = ap (λ n. take n (drop start xs)) d ∙ e }
line_found xs k (suc left) start end z h e f l = absurd (omega arith)
