-- A table's text: what is asked of it, the table that it says, and what the call leaves.
-- Assumes nothing.
use Rattle.std.specs.Prelude.{ℕ, suc, ◌+◌, ◌-◌, cond, List, [], ◌∷◌, ◌++◌, leb, eqb, length, get_or, drop, pos}
use Rattle.layout.specs.declared.Rect.{Rect}
use Rattle.layout.specs.Contents.{Contents}
use Rattle.layout.specs.Answers.{refused as refusal, accepted, Question, asks, first_no, Wrote, wrote}
use Rattle.limits.specs.Limits.{bits_good, drops_good, word_good, rect_good, value_good}
use Rattle.table.specs.Format.{Outcome, refused, loaded, encode}
use Rattle.words.specs.Words.{lines_of}
use Rattle.forms.specs.Forms.{kind_of, size_at, rect_in, asks_at, line_asks}

-- ---- the lines of a kind

-- a line: its place in the text, counted from 1, and its words
pub record Line : Type 0 where
  pub place : ℕ
  pub words : List (List ℕ)

abbrev pub line : (place : ℕ) → (words : List (List ℕ)) → Line
line place words = record { place = place; words = words }

-- the lines of a kind, in their order, where the first of these lines has this place
unfoldable pub of_kind : (kind place : ℕ) → (lines : List (List (List ℕ))) → List Line
of_kind kind place [] = []
of_kind kind place (words ∷ lines) =
    cond (eqb (kind_of words) kind) (line place words ∷ of_kind kind (suc place) lines) (of_kind kind (suc place) lines)

-- those of a text: the header's are 0 bits, 1 drops, 2 shift, 3 word; 4 are the rectangles
unfoldable pub lines_with : (kind : ℕ) → (text : List ℕ) → List Line
lines_with kind text = of_kind kind 1 (lines_of text)

-- the header's line of a kind
unfoldable pub head_line : (kind : ℕ) → (text : List ℕ) → Line
head_line kind text = get_or (lines_with kind text) 0 (line 0 [])

-- ---- what the text says

unfoldable pub rects_in : List Line → List Rect
rects_in [] = []
rects_in (l ∷ ls) = rect_in l.words ∷ rects_in ls

-- the table: each number of the header from its line, and a rectangle from each of the rectangles' lines
abbrev pub contents_of : (text : List ℕ) → Contents
contents_of text =
    record {
      b = size_at (head_line 0 text).words 0;
      q1 = size_at (head_line 1 text).words 0;
      q2 = size_at (head_line 1 text).words 1;
      q3 = size_at (head_line 1 text).words 2;
      t = size_at (head_line 2 text).words 0;
      w = size_at (head_line 3 text).words 0;
      rects = rects_in (lines_with 4 text);
    }

-- ---- what is asked

-- of each line by itself
unfoldable pub lines_ask : (place : ℕ) → (lines : List (List (List ℕ))) → List Question
lines_ask place [] = []
lines_ask place (words ∷ lines) = line_asks place words ++ lines_ask (suc place) lines

-- of the header's lines of a kind: there is one, and no second
unfoldable pub once_asks : (kind : ℕ) → List Line → List Question
once_asks kind ls = asks (109 + kind) (leb 1 (length ls)) ∷ asks_at (get_or ls 1 (line 0 [])).place 108 (leb (length ls) 1) ∷ []

unfoldable pub all_once : (text : List ℕ) → List Question
all_once text =
    once_asks 0 (lines_with 0 text) ++ (once_asks 1 (lines_with 1 text) ++ (once_asks 2 (lines_with 2 text) ++ once_asks 3 (lines_with 3 text)))

-- questions 3 to 5, a no to 5 said of the shift where that is above 31, else of the word
unfoldable pub numbers_ask : (text : List ℕ) → Contents → List Question
numbers_ask text c =
    asks_at (head_line 0 text).place 3 (bits_good c.b) ∷ asks_at (head_line 1 text).place 4 (drops_good c.b c.q1 c.q2 c.q3)
    ∷ asks_at (head_line (cond (leb c.t 31) 3 2) text).place 5 (word_good c.t c.w) ∷ []

-- questions 6 and 8 of a rectangle's line where `left` more may be read
unfoldable pub rect_asks : (left : ℕ) → Line → List Question
rect_asks left l = asks_at l.place 6 (leb 1 left) ∷ asks_at l.place 8 (rect_good (rect_in l.words)) ∷ []

unfoldable pub rects_ask : (left : ℕ) → List Line → List Question
rects_ask left [] = []
rects_ask left (l ∷ ls) = rect_asks left l ++ rects_ask (left - 1) ls

-- before the rectangles: of the lines, of the header's lines, of the header's numbers
unfoldable pub head_asks : (text : List ℕ) → List Question
head_asks text = lines_ask 1 (lines_of text) ++ (all_once text ++ numbers_ask text (contents_of text))

-- of the rectangles: questions 6 and 8 of each, then 9
unfoldable pub tail_asks : (text : List ℕ) → List Question
tail_asks text = rects_ask 16 (lines_with 4 text) ++ (asks 9 (leb 1 (length (lines_with 4 text))) ∷ [])

-- all of them in their order
unfoldable pub make_asks : (text : List ℕ) → List Question
make_asks text = asks 113 (leb (length text) 65535) ∷ (head_asks text ++ (tail_asks text ++ (asks 10 (value_good (contents_of text)) ∷ [])))

-- what the text comes to: the number and the place of the first question answered no, or the table
unfoldable pub make_of : (text : List ℕ) → Outcome
make_of text = first_no (make_asks text) refused (loaded (contents_of text))

-- ---- what the call leaves

-- question 13 on the length of the output; then the length of the table's file, and the file with what was there beyond it
abbrev pub left_by : Outcome → (out : List ℕ) → Wrote
left_by (refused number place) out = wrote (refusal number place) out
left_by (loaded c) out =
    first_no (asks 13 (leb (length (encode c)) (length out)) ∷ []) (λ number place. wrote (refusal number place) out)
    (wrote (accepted (pos (length (encode c)) ∷ [])) (encode c ++ drop (length (encode c)) out))

unfoldable pub make_left : (text out : List ℕ) → Wrote
make_left text out = left_by (make_of text) out
