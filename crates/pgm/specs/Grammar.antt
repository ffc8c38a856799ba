-- The header of a binary PGM: `P5`, three numbers, each after white space and comments, and one byte of white space.
-- Assumes nothing.
use Rattle.std.specs.Prelude.{ℕ, suc, ◌+◌, ◌-◌, ◌*◌, Bool, false, cond, not, ◌&&◌, ◌||◌, List, [], ◌∷◌, leb, eqb, length, get_or, drop, Result, Ok, Err}
use Rattle.pgm.specs.declared.Entry.{Entry}
use Rattle.pgm.specs.declared.Entry.TheVariants.{Width, Height, Maxval}
use Rattle.pgm.specs.declared.Opening.{Opening}
use Rattle.pgm.specs.declared.NoHeader.{NoHeader}
use Rattle.pgm.specs.declared.NoHeader.TheVariants.{More, Foreign, Bad, Large, Unended}

-- white space: tab, line feed, vertical tab, form feed, carriage return, space
unfoldable pub blank : ℕ → Bool
blank b = (leb 9 b && leb b 13) || eqb b 32

-- a line feed or a carriage return ends a comment
unfoldable pub line_end : ℕ → Bool
line_end b = eqb b 10 || eqb b 13

unfoldable pub digit : ℕ → Bool
digit b = leb 48 b && leb b 57

-- a byte is part of a gap: anything within a comment; outside one, white space and the `#` that begins a comment
unfoldable pub in_gap : (comment : Bool) → ℕ → Bool
in_gap comment b = comment || (blank b || eqb b 35)

-- after a byte of a gap a comment goes on, or has begun
unfoldable pub in_comment : (comment : Bool) → ℕ → Bool
in_comment comment b = cond comment (not (line_end b)) (eqb b 35)

-- how many bytes of white space and comments bs begins with; `comment` says that it begins within a comment
unfoldable pub gap : (comment : Bool) → List ℕ → ℕ
gap comment [] = 0
gap comment (b ∷ bs) = cond (in_gap comment b) (suc (gap (in_comment comment b) bs)) 0

-- how many digits bs begins with
unfoldable pub digits : List ℕ → ℕ
digits [] = 0
digits (b ∷ bs) = cond (digit b) (suc (digits bs)) 0

-- the number that the digits at the start of bs spell, after digits that spell n
unfoldable pub number : (n : ℕ) → List ℕ → ℕ
number n [] = n
number n (b ∷ bs) = cond (digit b) (number (n * 10 + (b - 48)) bs) n

-- where the next number of bs begins, from place `at` on, where it ends, and what it is
unfoldable pub begin : List ℕ → (at : ℕ) → ℕ
begin bs at = at + gap false (drop at bs)

unfoldable pub end : List ℕ → (at : ℕ) → ℕ
end bs at = begin bs at + digits (drop (begin bs at) bs)

unfoldable pub value : List ℕ → (at : ℕ) → ℕ
value bs at = number 0 (drop (begin bs at) bs)

-- a number of the header, from place `at` on, with where it ends; or what is missing or wrong
unfoldable pub field : Entry → List ℕ → (at : ℕ) → Result (ℕ × ℕ) NoHeader
field entry bs at =
    cond (leb (length bs) (begin bs at)) (Err More)
    (cond (eqb (end bs at) (begin bs at)) (Err (Bad entry (begin bs at)))
    (cond (leb 65536 (value bs at)) (Err (Large entry (begin bs at))) (Ok (value bs at, end bs at))))

-- what follows a number that was read
abbrev pub and_then : Result (ℕ × ℕ) NoHeader → (ℕ → ℕ → Result Opening NoHeader) → Result Opening NoHeader
and_then (Ok (value, end)) next = next value end
and_then (Err why) next = Err why

-- one byte of white space ends the header
unfoldable pub ended : List ℕ → (width height maxval at : ℕ) → Result Opening NoHeader
ended bs width height maxval at =
    cond (leb (length bs) at) (Err More)
    (cond (blank (get_or bs at 0)) (Ok (record { width = width; height = height; maxval = maxval; end = at + 1 })) (Err (Unended at)))

-- the three numbers, from place 2 on
abbrev pub numbers_of : List ℕ → Result Opening NoHeader
numbers_of bs =
    and_then (field Width bs 2) (λ width at.
    and_then (field Height bs at) (λ height at.
    and_then (field Maxval bs at) (λ maxval at. ended bs width height maxval at)))

-- bs begins with `P5` and a gap
unfoldable pub magic : List ℕ → Bool
magic bs = eqb (get_or bs 0 0) 80 && (eqb (get_or bs 1 0) 53 && in_gap false (get_or bs 2 0))

-- what the first bytes of a file come to
unfoldable pub header_of : List ℕ → Result Opening NoHeader
header_of bs = cond (leb 3 (length bs)) (cond (magic bs) (numbers_of bs) (Err Foreign)) (Err More)

-- number k of a header does not begin at a byte: 0 is the width, 1 the height, 2 the maxval, and from 3 on the white space after them
unfoldable pub bad_of : (k at : ℕ) → NoHeader
bad_of k at =
    cond (eqb k 0) (Bad Width at) (cond (eqb k 1) (Bad Height at) (cond (eqb k 2) (Bad Maxval at) (Unended at)))

-- number k of a header, which begins at a byte, is too large: from 2 on it is the maxval
unfoldable pub large_of : (k at : ℕ) → NoHeader
large_of k at = cond (eqb k 0) (Large Width at) (cond (eqb k 1) (Large Height at) (Large Maxval at))
