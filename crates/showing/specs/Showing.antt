-- A table shown as text: what is shown of a table file, by what reading it comes to.
-- Assumes nothing.
use Rattle.std.specs.Prelude.{ℕ, cond, List, [], ◌∷◌, ◌++◌, length, drop, ℤ, pos, Result, Ok, Err}
use Rattle.layout.specs.declared.Rect.{Rect}
use Rattle.layout.specs.declared.Table.{Table}
use Rattle.layout.specs.declared.asking.Refusal.{Refusal}
use Rattle.layout.specs.Contents.{Contents, rects_of}
use Rattle.layout.specs.Answers.{Said, refused as refusal, accepted, result_said, Wrote, wrote}
use Rattle.limits.specs.Limits.{value_good, fitting}
use Rattle.table.specs.Format.{Outcome, refused, loaded}
use Rattle.text.specs.Text.{cell, signed_cell}
use Rattle.text.specs.Ascii.{ascii}
use Rattle.refusals.specs.Sentences.{refusal_text}
use Rattle.showing.specs.declared.Shown.{Shown}

-- ---- the text of a table

-- a line of a word and a number
unfoldable pub number_line : (word : List ℕ) → (n : ℕ) → List ℕ
number_line word n = word ++ cell n 10

-- the drops
unfoldable pub drops_line : (q1 q2 q3 : ℕ) → List ℕ
drops_line q1 q2 q3 = ascii "drops " ++ cell q1 32 ++ cell q2 32 ++ cell q3 10

-- a word, and two integers with a space behind each: the row and the column of an edge
unfoldable pub pair : (word : List ℕ) → (row col : ℤ) → List ℕ
pair word row col = word ++ signed_cell row 32 ++ signed_cell col 32

-- a rectangle
unfoldable pub rect_line : Rect → List ℕ
rect_line r =
    pair (ascii "rectangle lead ") r.leadrow r.leadcol
    ++ pair (ascii "trail ") r.trailrow r.trailcol
    ++ (ascii "weight " ++ signed_cell r.weight 10)

-- rectangles in their order
unfoldable pub rect_lines : List Rect → List ℕ
rect_lines [] = []
rect_lines (r ∷ rs) = rect_line r ++ rect_lines rs

-- the four lines of a header
unfoldable pub head_lines : (b q1 q2 q3 t w : ℕ) → List ℕ
head_lines b q1 q2 q3 t w =
    number_line (ascii "bits ") b ++ drops_line q1 q2 q3 ++ number_line (ascii "shift ") t ++ number_line (ascii "word ") w

-- the text of a table: the header's lines, then a line for each rectangle
unfoldable pub text_of : Contents → List ℕ
text_of c = head_lines c.b c.q1 c.q2 c.q3 c.t c.w ++ rect_lines c.rects

-- ---- what is shown of a file

-- the comment behind a table that question 10 refuses
unfoldable pub remark : List ℕ
remark = ascii "# refused, 10: " ++ refusal_text 10 ++ (10 ∷ [])

-- a table that was read: its text, with the comment where question 10 says no
unfoldable pub shown_text : Contents → List ℕ
shown_text c = text_of c ++ cond (value_good c) [] remark

-- an answer in the rules' numbers: how many bytes were put, or the refusal
abbrev pub shown_said : Result ℕ Refusal → Said
shown_said v = result_said (λ n. pos n ∷ []) v

-- a file that questions 1 to 9 refuse is said with its number and place, and the output is as it was; any other is shown at its start
unfoldable pub shown_of : Outcome → (out : List ℕ) → Wrote
shown_of (refused number place) out = wrote (refusal number place) out
shown_of (loaded c) out = wrote (accepted (pos (length (shown_text c)) ∷ [])) (shown_text c ++ drop (length (shown_text c)) out)

-- ---- what is printed of a struct

-- what the struct says of a table: the rectangles in its slots
abbrev pub told : Table → Contents
told t = record { b = t.b; q1 = t.q1; q2 = t.q2; q3 = t.q3; t = t.t; w = t.w; rects = rects_of t }

-- what is printed of a struct: its text, with the comment where question 3, 4, 5 or 10 says no, or there are more than 16 rectangles
unfoldable pub printed : Table → List ℕ
printed t = text_of (told t) ++ cond (fitting t) [] remark

-- what an answer with a struct says, and an output with what is printed at its start
abbrev pub shown_at : Result Shown Refusal → (out : List ℕ) → Wrote
shown_at (Ok s) out = wrote (shown_said (Ok (length (printed s.0)))) (printed s.0 ++ drop (length (printed s.0)) out)
shown_at (Err r) out = wrote (shown_said (Err r)) out
