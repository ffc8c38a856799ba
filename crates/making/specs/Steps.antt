-- What the functions behind the call say: which lines come, and the table in the widths of the struct.
-- Assumes nothing.
use Rattle.std.specs.Prelude.{ℕ, suc, min, ◌≡◌, cond, List, [], ◌∷◌, eqb, leb, Option, MatchOption}
use Rattle.layout.specs.declared.Rect.{Rect}
use Rattle.layout.specs.Contents.{Contents, no_rects, table_of}
use Rattle.layout.specs.Answers.{asks, first_no}
use Rattle.limits.specs.Limits.{fitting}
use Rattle.table.specs.Format.{Outcome, refused, loaded}
use Rattle.words.specs.Words.{words_of, lines_of}
use Rattle.forms.specs.Forms.{kind_number, size_at, held_rect}
use Rattle.making.specs.declared.lines.Line.{Line as Found}
use Rattle.making.specs.declared.lines.Placed.{Placed}
use Rattle.making.specs.declared.lines.OfKind.{OfKind}
use Rattle.making.specs.Making.{Line, line, of_kind, lines_with, head_line, tail_asks}

-- what a line of the code says
abbrev pub line_said : Found → Line
line_said l = line l.place (words_of l.bytes.now)

-- the next line of a text, with the place of the next
abbrev pub YieldsLine : Placed → Option Found → Placed → Type 0
YieldsLine s r t =
    MatchOption r ((lines_of s.rest.0.now ≡ []) × (lines_of t.rest.0.now ≡ []))
    (λ l. (l.place ≡ s.place) × (t.place ≡ suc s.place) × (lines_of s.rest.0.now ≡ words_of l.bytes.now ∷ lines_of t.rest.0.now))

-- the lines of a kind that are left
abbrev pub lines_left : OfKind → List Line
lines_left s = of_kind (kind_number s.kind) s.lines.place (lines_of s.lines.rest.0.now)

-- the header's numbers, held at 255
unfoldable pub held_at : (kind k : ℕ) → (text : List ℕ) → ℕ
held_at kind k text = min 255 (size_at (head_line kind text).words k)

abbrev pub held_head : (text : List ℕ) → Contents
held_head text =
    no_rects (held_at 0 0 text) (held_at 1 0 text) (held_at 1 1 text) (held_at 1 2 text) (held_at 2 0 text) (held_at 3 0 text)

unfoldable pub held_rects : List Line → List Rect
held_rects [] = []
held_rects (l ∷ ls) = held_rect l.words ∷ held_rects ls

-- the table with them and with the rectangles' numbers held
abbrev pub held_contents : (text : List ℕ) → Contents
held_contents text =
    record {
      b = (held_head text).b;
      q1 = (held_head text).q1;
      q2 = (held_head text).q2;
      q3 = (held_head text).q3;
      t = (held_head text).t;
      w = (held_head text).w;
      rects = held_rects (lines_with 4 text);
    }

-- what the rectangles' lines come to: questions 6 and 8 of each, and 9
abbrev pub collected : (text : List ℕ) → Outcome
collected text = first_no (tail_asks text) refused (loaded (held_contents text))

-- the place of the line that a no to question 3, 4 or 5 is said of
abbrev pub blamed_of : (text : List ℕ) → (number : ℕ) → ℕ
blamed_of text number =
    cond (eqb number 3) (head_line 0 text).place
    (cond (eqb number 4) (head_line 1 text).place (head_line (cond (leb (size_at (head_line 2 text).words 0) 31) 3 2) text).place)

-- question 10 on what the rectangles' lines come to
abbrev pub fit_held : Outcome → Outcome
fit_held (refused number place) = refused number place
fit_held (loaded c) = first_no (asks 10 (fitting (table_of c)) ∷ []) refused (loaded c)
