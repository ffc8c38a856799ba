-- A row of pixels as a line of decimal numbers, and the header of the picture that goes out.
-- Assumes nothing.
use Rattle.std.specs.Prelude.{ℕ, zero, suc, ◌*◌, cond, List, [], ◌∷◌, ◌++◌, leb, eqb, length, get_or, drop, codes, ℤ, pos}
use Rattle.text.specs.Text.{cell, signed_cell}
use Rattle.pgm.specs.declared.Entry.{Entry}
use Rattle.pgm.specs.declared.Entry.TheVariants.{Width, Height, Maxval}

-- the name of a number of a header
abbrev pub entry_name : Entry → List ℕ
entry_name Width = codes "width"
entry_name Height = codes "height"
entry_name Maxval = codes "maxval"

-- `P5`, then width and height, then the maxval, a line each
unfoldable pub head_text : (width height maxval : ℕ) → List ℕ
head_text width height maxval = (80 ∷ 53 ∷ 10 ∷ []) ++ cell width 32 ++ cell height 10 ++ cell maxval 10

-- the byte after pixel k of n, counted from 1: a line feed after the last, else a space
unfoldable pub after : (k n : ℕ) → ℕ
after k n = cond (eqb k n) 10 32

-- the first k of the n pixels of a row, each with the byte after it
unfoldable pub cells : (n : ℕ) → List ℤ → (k : ℕ) → List ℕ
cells n zs zero = []
cells n zs (suc k) = cells n zs k ++ signed_cell (get_or zs k (pos 0)) (after (suc k) n)

-- a row of pixels as decimal numbers, with single spaces between and a line feed after the last
unfoldable pub line_text : List ℤ → List ℕ
line_text zs = cells (length zs) zs (length zs)

-- how many bytes are put: the line where the output has 22 bytes for each pixel, else none
unfoldable pub line_count : List ℤ → (places : ℕ) → ℕ
line_count zs places = cond (leb (22 * length zs) places) (length (line_text zs)) 0

-- the output with the line at its start, where it is put
unfoldable pub line_out : List ℤ → List ℕ → List ℕ
line_out zs out = cond (leb (22 * length zs) (length out)) (line_text zs ++ drop (length (line_text zs)) out) out
