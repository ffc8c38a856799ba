-- A number as a word of the command line, and what is said of a word that is none.
-- Assumes nothing.
use Rattle.std.specs.Prelude.{ℕ, ◌+◌, ◌-◌, ◌*◌, min, Option, Some, None, Bool, true, cond, ◌&&◌, List, [], ◌∷◌, ◌++◌, leb, ltb, length}
use Rattle.text.specs.Ascii.{ascii}

unfoldable pub digit : ℕ → Bool
digit b = leb 48 b && leb b 57

unfoldable pub all_digits : List ℕ → Bool
all_digits [] = true
all_digits (b ∷ w) = digit b && all_digits w

-- the number that digits spell, after digits that spell n
unfoldable pub spells : (n : ℕ) → List ℕ → ℕ
spells n [] = n
spells n (b ∷ w) = spells (n * 10 + (b - 48)) w

-- 10^18, which stands for whatever is larger; no figure of a choice reaches it
abbrev pub number_most : ℕ
number_most = 1000000000000000000

-- one digit or more, or no number
unfoldable pub number_of : List ℕ → Option ℕ
number_of w = cond (ltb 0 (length w) && all_digits w) (Some (min number_most (spells 0 w))) None

-- a word that is no number
unfoldable pub no_number_text : (what word : List ℕ) → List ℕ
no_number_text what word = ascii "drops: " ++ what ++ ascii " is no number: " ++ word ++ (10 ∷ [])
