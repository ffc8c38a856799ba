-- The words of a line, the numbers that they spell, and the lines of a text.
-- Assumes nothing.
use Rattle.std.specs.Prelude.{ℕ, ◌+◌, ◌-◌, ◌≤◌, ◌<◌, ◌≡◌, Bool, true, false, cond, ◌&&◌, ◌||◌, List, [], ◌∷◌, ◌++◌, ltb, eqb, length, get_or, take, drop, ℤ, pos, neg_ℤ}
use Rattle.pgm.specs.Grammar.{digits, number}

-- ---- words

-- between words stand spaces, tabs and carriage returns
unfoldable pub gap : ℕ → Bool
gap b = eqb b 32 || (eqb b 9 || eqb b 13)

-- a byte ends a word that has begun
abbrev pub ends : ℕ → Bool
ends b = gap b || eqb b 35

-- words after what stands before them: a word, or nothing
unfoldable pub ended : (word : List ℕ) → List (List ℕ) → List (List ℕ)
ended [] ws = ws
ended (b ∷ word) ws = (b ∷ word) ∷ ws

-- the words of the rest of a line, after the bytes of a word that has begun; a # begins a comment that goes to the line's end
unfoldable pub words_from : (word : List ℕ) → List ℕ → List (List ℕ)
words_from word [] = ended word []
words_from word (b ∷ bs) = cond (eqb b 35) (ended word []) (cond (gap b) (ended word (words_from [] bs)) (words_from (word ++ (b ∷ [])) bs))

-- the words of a line
unfoldable pub words_of : List ℕ → List (List ℕ)
words_of line = words_from [] line

-- a part of a line: its bytes from place `start` to `end`
pub record IsPart (line part : List ℕ) : Type 0 where
  pub start : ℕ
  pub end : ℕ
  pub forth : start ≤ end
  pub within : end ≤ length line
  pub is : part ≡ take (end - start) (drop start line)

-- a word of a line, and the rest of the line, which begins where the word ends
pub record Next (line word rest : List ℕ) : Type 0 where
  pub start : ℕ
  pub end : ℕ
  pub forth : start < end
  pub within : end ≤ length line
  pub word_is : word ≡ take (end - start) (drop start line)
  pub rest_is : rest ≡ drop end line

-- two words are the same
unfoldable pub same : List ℕ → List ℕ → Bool
same [] [] = true
same [] (b ∷ y) = false
same (a ∷ x) [] = false
same (a ∷ x) (b ∷ y) = eqb a b && same x y

-- ---- numbers

-- from place `at` on a word has digits only, and at least one
unfoldable pub spelt : (word : List ℕ) → (at : ℕ) → Bool
spelt word at = ltb at (length word) && eqb (at + digits (drop at word)) (length word)

-- a word begins with -
unfoldable pub minus : List ℕ → Bool
minus word = eqb (get_or word 0 0) 45

-- where its digits begin
unfoldable pub sign : List ℕ → ℕ
sign word = cond (minus word) 1 0

-- a word is a number without a sign; an integer, which may have a - in front
unfoldable pub is_number : List ℕ → Bool
is_number word = spelt word 0

unfoldable pub is_integer : List ℕ → Bool
is_integer word = spelt word (sign word)

-- the number that it spells without its sign, and with it
unfoldable pub size : List ℕ → ℕ
size word = number 0 (drop (sign word) word)

unfoldable pub with_sign : (minus : Bool) → (n : ℕ) → ℤ
with_sign minus n = cond minus (neg_ℤ (pos n)) (pos n)

unfoldable pub integer : List ℕ → ℤ
integer word = with_sign (minus word) (size word)

-- ---- lines

-- the lines of the rest of a text, after the bytes of a line that has begun; each ends with a line feed, the last may have none
unfoldable pub lines_from : (line : List ℕ) → List ℕ → List (List ℕ)
lines_from line [] = ended line []
lines_from line (b ∷ bs) = cond (eqb b 10) (line ∷ lines_from [] bs) (lines_from (line ++ (b ∷ [])) bs)

-- the words of each line
unfoldable pub words_of_each : List (List ℕ) → List (List (List ℕ))
words_of_each [] = []
words_of_each (line ∷ lines) = words_of line ∷ words_of_each lines

-- a text, line by line, as its words
unfoldable pub lines_of : List ℕ → List (List (List ℕ))
lines_of text = words_of_each (lines_from [] text)
