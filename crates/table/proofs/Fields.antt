-- The equations of `fields_of` and `parse_of`, by the verdicts of their questions.
-- Assumes nothing.
use Rattle.std.proofs.Common.{ℕ, zero, suc, ◌<◌, arith, ◌≡◌, List, length, drop, eq-eqb, ne_eqb}
use Rattle.layout.specs.Contents.{Contents}
use Rattle.layout.specs.Answers.{verdict}
use Rattle.layout.proofs.Questions.{on_verdict, first_verdict}
use Rattle.table.specs.Format.{Outcome, refused, head_of, plus, rect_of, header_asks, field_asks, at_end, fields_of, parse_of}

pub fields_end : (left : ℕ) (bs : List ℕ) (c : Contents) → length bs ≡ 0 → fields_of left bs c ≡ at_end c
unfolding fields_of
fields_end zero bs c e = rw (eq-eqb (length bs) 0 e)
fields_end (suc left) bs c e = rw (eq-eqb (length bs) 0 e)

-- what follows a field: the fields behind it
abbrev pub next : (left : ℕ) → List ℕ → Contents → Outcome
next zero bs c = at_end c
next (suc left) bs c = fields_of left (drop 9 bs) (plus c (rect_of bs))

pub fields_step : (left : ℕ) (bs : List ℕ) (c : Contents) → 0 < length bs
    → fields_of left bs c ≡ on_verdict (verdict (field_asks left bs)) refused (next left bs c)
unfolding fields_of
fields_step zero bs c h = rw (ne_eqb (length bs) 0 (λ e. omega arith)) (first_verdict (field_asks zero bs) refused (at_end c))
fields_step (suc left) bs c h =
    rw (ne_eqb (length bs) 0 (λ e. omega arith)) (first_verdict (field_asks (suc left) bs) refused (next (suc left) bs c))

pub parse_step : (bs : List ℕ) → parse_of bs ≡ on_verdict (verdict (header_asks bs)) refused (fields_of 16 (drop 9 bs) (head_of bs))
unfolding parse_of
parse_step bs = first_verdict (header_asks bs) refused (fields_of 16 (drop 9 bs) (head_of bs))
