-- What is printed of two table files, by what loading them comes to.
-- Assumes nothing.
use Rattle.std.specs.Prelude.{ℕ, ◌<◌, ◌≡◌, cond, List, [], ◌∷◌, ◌++◌, eqb, length, get_or, ℤ, pos, ◌+ℤ◌}
use Rattle.arith.specs.Part.{pos_part}
use Rattle.arith.specs.Tab.{tab}
use Rattle.layout.specs.declared.Table.{Table}
use Rattle.layout.specs.Contents.{table_of}
use Rattle.layout.specs.Answers.{Said}
use Rattle.grid.specs.Grid.{offset}
use Rattle.table.specs.Format.{Outcome, refused, loaded}
use Rattle.text.specs.Text.{cell, signed_cell}
use Rattle.text.specs.Ascii.{ascii}
use Rattle.refusals.specs.Sentences.{refusal_text}
use Rattle.same.specs.Same.{weight_at, same_of}

-- ---- weights by offset

-- the place of an offset among the 31
abbrev pub place_of : (o : ℤ) → ℕ
place_of o = pos_part (o +ℤ pos 15)

-- a table's weight at an offset
abbrev pub weight_by : Table → (row col : ℤ) → ℤ
weight_by t row col = weight_at t (place_of row) (place_of col)

-- an integer is one of the 31 offsets
pub record InGrid (o : ℤ) : Type 0 where
  pub a : ℕ
  pub less : a < 31
  pub is : o ≡ offset a

-- ---- the line

-- a refusal: what is refused, the number, and the words for it
unfoldable pub refused_text : (what : List ℕ) → (number : ℕ) → List ℕ
refused_text what number = what ++ cell number 58 ++ (32 ∷ []) ++ refusal_text number ++ (10 ∷ [])

-- an offset and the two weights there
unfoldable pub differ_text : (t u : Table) → (row col : ℤ) → List ℕ
differ_text t u row col =
    (ascii "differ at row " ++ signed_cell row 44)
    ++ (ascii " column " ++ signed_cell col 58)
    ++ (ascii " " ++ signed_cell (weight_by t row col) 32)
    ++ (ascii "and " ++ signed_cell (weight_by u row col) 10)

-- what a comparison says: refused; or same, with no value; or differs, with the offset
unfoldable pub said_text : (t u : Table) → Said → List ℕ
said_text t u s =
    cond (eqb s.kind 0) (refused_text (ascii "refused, ") s.number)
    (cond (eqb (length s.values) 0) (ascii "same\n") (differ_text t u (get_or s.values 0 (pos 0)) (get_or s.values 1 (pos 0))))

-- two tables, compared with 961 lent places
unfoldable pub compared_text : (t u : Table) → List ℕ
compared_text t u = said_text t u (same_of t u (tab 961 (λ k. 0))).said

-- a table and a second file
unfoldable pub second_text : Table → Outcome → List ℕ
second_text t (refused number place) = refused_text (ascii "second table refused, ") number
second_text t (loaded c) = compared_text t (table_of c)

-- two files
unfoldable pub comparison_of : (first second : Outcome) → List ℕ
comparison_of (refused number place) second = refused_text (ascii "first table refused, ") number
comparison_of (loaded c) second = second_text (table_of c) second
