-- The table file: reading it by the questions in their order, and writing it.
-- Assumes nothing.
use Rattle.std.specs.Prelude.{ℕ, zero, suc, ◌+◌, ◌*◌, ◌/◌, ◌%◌, ◌<◌, Bool, cond, ◌&&◌, List, [], ◌∷◌, ◌++◌, leb, eqb, length, get_or, drop, Result, Ok, Err}
use Rattle.arith.specs.Twos.{signed, unsigned}
use Rattle.layout.specs.declared.Rect.{Rect}
use Rattle.layout.specs.declared.Table.{Table}
use Rattle.layout.specs.declared.asking.Refusal.{Refusal}
use Rattle.layout.specs.Contents.{Contents, no_rects, table_of}
use Rattle.layout.specs.Answers.{Said, refused as refusal, accepted, no_said, result_said, Question, asks, first_no}
use Rattle.limits.specs.Limits.{head_asks, rect_good, value_good}

-- a file is a sequence of bytes
abbrev pub Bytes : List ℕ → Type 0
Bytes bs = (k : ℕ) → k < length bs → get_or bs k 0 < 256

-- ---- reading

-- what loading comes to: the number and the place of the first question answered no, or the table
pub data Outcome : Type 0 where
  refused : (number place : ℕ) → Outcome
  loaded : Contents → Outcome

-- a field begins with this tag and the length 6
unfoldable pub marked : (tag : ℕ) → List ℕ → Bool
marked tag bs = leb 3 (length bs) && (eqb (get_or bs 0 0) tag && (eqb (get_or bs 1 0) 0 && eqb (get_or bs 2 0) 6))

-- the numbers of the header, which begins bs
abbrev pub head_of : List ℕ → Contents
head_of bs = no_rects (get_or bs 3 0) (get_or bs 4 0) (get_or bs 5 0) (get_or bs 6 0) (get_or bs 7 0) (get_or bs 8 0)

-- the rectangle of the field that begins bs: four signed bytes and a signed number of two bytes, the high one first
abbrev pub rect_of : List ℕ → Rect
rect_of bs =
    record {
      leadrow = signed 8 (get_or bs 3 0);
      leadcol = signed 8 (get_or bs 4 0);
      trailrow = signed 8 (get_or bs 5 0);
      trailcol = signed 8 (get_or bs 6 0);
      weight = signed 16 (get_or bs 7 0 * 256 + get_or bs 8 0);
    }

-- c with one rectangle more
abbrev pub plus : Contents → Rect → Contents
plus c r = record { b = c.b; q1 = c.q1; q2 = c.q2; q3 = c.q3; t = c.t; w = c.w; rects = c.rects ++ (r ∷ []) }

-- questions 1 to 5, on the header
unfoldable pub header_asks : List ℕ → List Question
header_asks bs =
    asks 1 (marked 1 bs) ∷ asks 2 (leb 9 (length bs))
    ∷ head_asks (get_or bs 3 0) (get_or bs 4 0) (get_or bs 5 0) (get_or bs 6 0) (get_or bs 7 0) (get_or bs 8 0)

-- questions 7, 6, 2 and 8, on a further field where `left` rectangles more may be read
unfoldable pub field_asks : (left : ℕ) → List ℕ → List Question
field_asks left bs =
    asks 7 (marked 2 bs) ∷ asks 6 (leb 1 left) ∷ asks 2 (leb 9 (length bs)) ∷ asks 8 (rect_good (rect_of bs)) ∷ []

-- question 9, at the end of the file
abbrev pub at_end : Contents → Outcome
at_end c = first_no (asks 9 (leb 1 (length c.rects)) ∷ []) refused (loaded c)

-- the end of the file, or a further field's questions and then `next`
abbrev pub further : (left : ℕ) → List ℕ → Contents → (next : Outcome) → Outcome
further left bs c next = cond (eqb (length bs) 0) (at_end c) (first_no (field_asks left bs) refused next)

-- the fields after the header while bytes remain, where `left` rectangles more may be read. Where none may, question 6 says no, and
-- what would be next does not matter
unfoldable pub fields_of : (left : ℕ) → List ℕ → Contents → Outcome
fields_of zero bs c = further zero bs c (at_end c)
fields_of (suc left) bs c = further (suc left) bs c (fields_of left (drop 9 bs) (plus c (rect_of bs)))

-- questions 1 to 9
unfoldable pub parse_of : List ℕ → Outcome
parse_of bs = first_no (header_asks bs) refused (fields_of 16 (drop 9 bs) (head_of bs))

-- question 10, on a table that was read
abbrev pub fit_of : Outcome → Outcome
fit_of (refused number place) = refused number place
fit_of (loaded c) = first_no (asks 10 (value_good c) ∷ []) refused (loaded c)

-- loading: questions 1 to 10
unfoldable pub load_of : List ℕ → Outcome
load_of bs = fit_of (parse_of bs)

-- how many bytes of a file are enough to load it: those of the longest table and a mark
abbrev pub read_most : ℕ
read_most = 156

-- what is said of the file
abbrev pub said_of : Outcome → Said
said_of (refused number place) = refusal number place
said_of (loaded c) = accepted []

-- the struct that is handed out: the table, or one with no rectangle where the file was refused
abbrev pub table_from : Outcome → Table
table_from (refused number place) = table_of (no_rects 0 0 0 0 0 0)
table_from (loaded c) = table_of c

-- what loading hands out: what it says, and the struct
pub record Handed : Type 0 where
  pub said : Said
  pub table : Table

abbrev pub handed : Said → Table → Handed
handed said table = record { said = said; table = table }

abbrev pub handed_out : Outcome → Handed
handed_out o = handed (said_of o) (table_from o)

-- what a reading says: nothing of the value that was read
abbrev pub read_said : {A : Type 0} → Result A Refusal → Said
read_said v = result_said (λ x. []) v

-- the same of what the code answers, where a refusal has no table
abbrev pub given : Result Table Refusal → Handed
given (Ok t) = handed (accepted []) t
given (Err r) = handed (no_said r) (table_of (no_rects 0 0 0 0 0 0))

-- ---- writing

-- the field of a rectangle
unfoldable pub encode_rect : Rect → List ℕ
encode_rect r =
    2 ∷ 0 ∷ 6
    ∷ unsigned 8 r.leadrow ∷ unsigned 8 r.leadcol ∷ unsigned 8 r.trailrow ∷ unsigned 8 r.trailcol
    ∷ unsigned 16 r.weight / 256 ∷ unsigned 16 r.weight % 256 ∷ []

-- the fields of rectangles, one after the other
unfoldable pub encode_rects : List Rect → List ℕ
encode_rects [] = []
encode_rects (r ∷ rs) = encode_rect r ++ encode_rects rs

-- the field of the header
unfoldable pub encode_head : Contents → List ℕ
encode_head c = 1 ∷ 0 ∷ 6 ∷ c.b ∷ c.q1 ∷ c.q2 ∷ c.q3 ∷ c.t ∷ c.w ∷ []

-- the file of a table: the header's field, then a field for each rectangle
unfoldable pub encode : Contents → List ℕ
encode c = encode_head c ++ encode_rects c.rects
