-- The lines that a table's text is made of: what each kind of line looks like, and what is asked of a line by itself.
-- Assumes nothing.
use Rattle.std.specs.Prelude.{ℕ, suc, ◌+◌, min, Bool, true, false, cond, ◌&&◌, List, [], ◌∷◌, ltb, eqb, length, get_or, ℤ, Option, Some, None}
use Rattle.arith.specs.Twos.{fits_signed}
use Rattle.text.specs.Ascii.{ascii}
use Rattle.layout.specs.declared.Rect.{Rect}
use Rattle.layout.specs.Answers.{Question}
use Rattle.forms.specs.declared.kinds.Kind.{Kind}
use Rattle.forms.specs.declared.kinds.Kind.TheVariants.{Bits, Drops, Shift, Word, Rectangle}
use Rattle.words.specs.Words.{words_of, same, is_number, is_integer, minus, size, with_sign, integer}

-- ---- kinds of lines

-- the first words of the kinds, which are counted from 0: the header's four, and a rectangle
unfoldable pub names : List (List ℕ)
names = ascii "bits" ∷ ascii "drops" ∷ ascii "shift" ∷ ascii "word" ∷ ascii "rectangle" ∷ []

-- the place of a word in a list, or the length of the list where it is not in it
unfoldable pub place_in : List (List ℕ) → (word : List ℕ) → ℕ
place_in [] word = 0
place_in (name ∷ names) word = cond (same word name) 0 (suc (place_in names word))

-- the place of a kind among their names
abbrev pub kind_number : Kind → ℕ
kind_number Bits = 0
kind_number Drops = 1
kind_number Shift = 2
kind_number Word = 3
kind_number Rectangle = 4

abbrev pub kind_said : Option Kind → ℕ
kind_said None = 5
kind_said (Some kind) = kind_number kind

-- the kind of a line by its words; 5 where its first word is no kind's, and where it has none
unfoldable pub kind_of : List (List ℕ) → ℕ
kind_of words = place_in names (get_or words 0 [])

-- the form of each kind: N stands for a number without a sign, Z for an integer, any other word for itself
unfoldable pub forms : List (List ℕ)
forms =
    ascii "bits N" ∷ ascii "drops N N N" ∷ ascii "shift N" ∷ ascii "word N" ∷ ascii "rectangle lead Z Z trail Z Z weight Z" ∷ []

unfoldable pub form : (kind : ℕ) → List (List ℕ)
form kind = words_of (get_or forms kind [])

-- a word is what a form's word stands for
unfoldable pub word_fits : (mark word : List ℕ) → Bool
word_fits mark word = cond (same mark (ascii "N")) (is_number word) (cond (same mark (ascii "Z")) (is_integer word) (same mark word))

-- words are of a form, neither fewer nor more
unfoldable pub fits : (marks words : List (List ℕ)) → Bool
fits [] [] = true
fits [] (word ∷ words) = false
fits (mark ∷ marks) [] = false
fits (mark ∷ marks) (word ∷ words) = word_fits mark word && fits marks words

-- ---- what a line says

-- number k of a header's line is its word k + 1; a rectangle's edges and its weight are words 2, 3, 5, 6 and 8
unfoldable pub size_at : (words : List (List ℕ)) → (k : ℕ) → ℕ
size_at words k = size (get_or words (suc k) [])

unfoldable pub integer_at : (words : List (List ℕ)) → (k : ℕ) → ℤ
integer_at words k = integer (get_or words k [])

abbrev pub rect_in : (words : List (List ℕ)) → Rect
rect_in words =
    record {
      leadrow = integer_at words 2;
      leadcol = integer_at words 3;
      trailrow = integer_at words 5;
      trailcol = integer_at words 6;
      weight = integer_at words 8;
    }

-- ---- what is asked of it

-- a question whose no is said of a line
abbrev pub asks_at : (place number : ℕ) → Bool → Question
asks_at place number b = record { number = number; place = place; holds = b }

-- the weight of a rectangle has 16 bits
unfoldable pub weight_good : (words : List (List ℕ)) → Bool
weight_good words = cond (eqb (kind_of words) 4) (fits_signed 16 (integer_at words 8)) true

-- a line that says something begins with a kind's name, is of its form, and has a weight of 16 bits
unfoldable pub line_asks : (place : ℕ) → (words : List (List ℕ)) → List Question
line_asks place words =
    cond (eqb (length words) 0) []
    (asks_at place 101 (ltb (kind_of words) 5) ∷ asks_at place (102 + kind_of words) (fits (form (kind_of words)) words)
    ∷ asks_at place 107 (weight_good words) ∷ [])

-- ---- what the code holds

-- a number that takes more than a byte is held as the nearest that does not: 255, or 127 with either sign; a weight as the nearest of
-- 16 bits. No question's limit is beyond these
abbrev pub held_edge : (word : List ℕ) → ℤ
held_edge word = with_sign (minus word) (min 127 (size word))

abbrev pub held_weight : (word : List ℕ) → ℤ
held_weight word = with_sign (minus word) (min (cond (minus word) 32768 32767) (size word))

abbrev pub held_rect : (words : List (List ℕ)) → Rect
held_rect words =
    record {
      leadrow = held_edge (get_or words 2 []);
      leadcol = held_edge (get_or words 3 []);
      trailrow = held_edge (get_or words 5 []);
      trailcol = held_edge (get_or words 6 []);
      weight = held_weight (get_or words 8 []);
    }
