-- What request M-105 changed: loading as it was, where question 6 was asked of bytes behind sixteen rectangles before 7, and the files
-- that are answered otherwise since. Only `after_sixteen`, `six_exactly` and `changed_exactly` (proofs/Theorems.antt) are said with it:
-- no code and no other promise rests on it.
-- Assumes nothing.
use Rattle.std.specs.Prelude.{ℕ, zero, suc, ◌<◌, ◌≡◌, false, cond, List, [], ◌∷◌, ◌++◌, T, leb, eqb, length, drop}
use Rattle.layout.specs.Contents.{Contents}
use Rattle.layout.specs.Answers.{asks, first_no}
use Rattle.limits.specs.Limits.{rect_good, shaped}
use Rattle.table.specs.Format.{Outcome, refused, marked, head_of, rect_of, plus, header_asks, at_end, fit_of, encode}

-- the fields after the header as they were read
unfoldable pub fields_before : (left : ℕ) → List ℕ → Contents → Outcome
fields_before zero bs c = cond (eqb (length bs) 0) (at_end c) (refused 6 0)
fields_before (suc left) bs c =
    cond (eqb (length bs) 0) (at_end c)
    (first_no (asks 7 (marked 2 bs) ∷ asks 2 (leb 9 (length bs)) ∷ asks 8 (rect_good (rect_of bs)) ∷ []) refused
    (fields_before left (drop 9 bs) (plus c (rect_of bs))))

-- loading as it was
unfoldable pub load_before : List ℕ → Outcome
load_before bs = fit_of (first_no (header_asks bs) refused (fields_before 16 (drop 9 bs) (head_of bs)))

-- the file of a table of sixteen rectangles, within the limits but for question 10, with more bytes behind it
pub record Overlong (bs : List ℕ) : Type 0 where
  pub table : Contents
  pub rest : List ℕ
  pub good : T (shaped table)
  pub sixteen : length table.rects ≡ 16
  pub more : 0 < length rest
  pub is : bs ≡ encode table ++ rest

-- one whose further bytes do not begin with a field's mark
abbrev pub Stray : List ℕ → Type 0
Stray bs = (o : Overlong bs) × (marked 2 o.rest ≡ false)
