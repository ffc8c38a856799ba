-- The table listing: what is printed of a file, by what loading it comes to.
-- Assumes nothing.
use Rattle.std.specs.Prelude.{ℕ, zero, suc, List, [], ◌∷◌, ◌++◌}
use Rattle.layout.specs.declared.Table.{Table}
use Rattle.layout.specs.Contents.{rect, table_of}
use Rattle.layout.specs.Measure.{rows_of, cols_of, column_word, window_word, loss_figure, delay_of}
use Rattle.table.specs.Format.{Outcome, refused, loaded}
use Rattle.text.specs.Text.{cell, signed_cell}

-- three numbers with single spaces between, and the byte after them
unfoldable pub three : (x y z end : ℕ) → List ℕ
three x y z end = cell x 32 ++ cell y 32 ++ cell z end

-- b q1 q2 q3 t w
unfoldable pub head_line : Table → List ℕ
head_line t = three t.b t.q1 t.q2 32 ++ three t.q3 t.t t.w 10

-- a rectangle's count from 0, M, N, column word, window word, loss figure and weight
unfoldable pub rect_line : Table → ℕ → List ℕ
rect_line t k =
    three k (rows_of (rect t k)) (cols_of (rect t k)) 32
    ++ three (column_word t (rect t k)) (window_word t (rect t k)) (loss_figure t (rect t k)) 32
    ++ signed_cell (rect t k).weight 10

-- the lines of the first n rectangles
unfoldable pub rect_lines : Table → (n : ℕ) → List ℕ
rect_lines t zero = []
rect_lines t (suc n) = rect_lines t n ++ rect_line t n

-- `end`, the number of rectangles and the delay
unfoldable pub end_line : Table → List ℕ
end_line t = (101 ∷ 110 ∷ 100 ∷ 32 ∷ []) ++ cell t.count 32 ++ cell (delay_of t) 10

-- `refused` and the number
unfoldable pub refused_line : ℕ → List ℕ
refused_line number = (114 ∷ 101 ∷ 102 ∷ 117 ∷ 115 ∷ 101 ∷ 100 ∷ 32 ∷ []) ++ cell number 10

unfoldable pub table_lines : Table → List ℕ
table_lines t = head_line t ++ rect_lines t t.count ++ end_line t

unfoldable pub listing_of : Outcome → List ℕ
listing_of (refused number place) = refused_line number
listing_of (loaded c) = table_lines (table_of c)
