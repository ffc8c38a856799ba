-- What `drops` prints of a table: a head line, and a line for each choice that is shown.
-- Assumes nothing.
use Rattle.std.specs.Prelude.{ℕ, zero, suc, ◌/◌, ◌%◌, Option, Some, None, Bool, true, cond, ◌&&◌, List, [], ◌++◌, leb, pos, neg_ℤ}
use Rattle.layout.specs.declared.Table.{Table}
use Rattle.figures.specs.declared.Figures.{Figures}
use Rattle.figures.specs.Measured.{figures_of}
use Rattle.choices.specs.Choices.{with_drops, choice_count, listed}
use Rattle.text.specs.Text.{cell, signed_cell}
use Rattle.text.specs.Ascii.{ascii}

-- three numbers, each with a space after it
unfoldable pub three : (x y z : ℕ) → List ℕ
three x y z = cell x 32 ++ cell y 32 ++ cell z 32

-- both bounds are within so many pixels
unfoldable pub within_most : Option Figures → (most : ℕ) → Bool
within_most (Some f) most = leb f.below most && leb f.above most
within_most None most = true

-- q1 q2 q3, the widest column word and window word, the bits of all sums, and the two bounds
unfoldable pub choice_line : (i : ℕ) → Figures → List ℕ
choice_line i f =
    three (i / 81) (i / 9 % 9) (i % 9) ++ three f.column f.window f.sums ++ signed_cell (neg_ℤ (pos f.below)) 32 ++ cell f.above 10

-- the line of choice i by what figures it has
unfoldable pub shown_line : (i : ℕ) → Option Figures → List ℕ
shown_line i (Some f) = choice_line i f
shown_line i None = []

-- the line of choice i where it is listed and within most, else nothing
unfoldable pub choice_text : Table → (l most i : ℕ) → List ℕ
choice_text t l most i =
    cond (listed t l i && within_most (figures_of (with_drops t i) l) most) (shown_line i (figures_of (with_drops t i) l)) []

-- those of the first n choices
unfoldable pub choice_lines : Table → (l most n : ℕ) → List ℕ
choice_lines t l most zero = []
choice_lines t l most (suc n) = choice_lines t l most n ++ choice_text t l most n

-- the whole text
unfoldable pub choices_text : Table → (l most : ℕ) → List ℕ
choices_text t l most = ascii "q1 q2 q3 column window sums low high\n" ++ choice_lines t l most (choice_count t)
