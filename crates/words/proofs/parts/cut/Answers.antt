-- Up to the line feed, or to the end where there is none.
-- Assumes nothing.
use Rattle.std.proofs.Common.{◌≡◌, ◌+◌, suc, length, take, drop, sym, ap, ◌∙◌, arith, take_all, drop_of_length-le}
use Rattle.text.specs.Ascii.{line_length, after_line}
use Rattle.words.proofs.Steps.{line_last, line_some, to_end}
use Rattle.words.proofs.parts.cut.Goals as goal

pub returns-in-Some-clause-line : goal.returns-in-Some-clause-line
returns-in-Some-clause-line c =
    let p = line_some c.args.text.now c.in-Some.end (sym c.line_end.ensures ∙ c.in-Some.is) in
    ap (λ n. take n c.args.text.now) (sym p.0)

pub returns-in-Some-clause-rest : goal.returns-in-Some-clause-rest
unfolding after_line
returns-in-Some-clause-rest c =
    let p = line_some c.args.text.now c.in-Some.end (sym c.line_end.ensures ∙ c.in-Some.is) in
    let e : c.in-Some.end + 1 ≡ suc (line_length c.args.text.now) = omega arith in
    to_end (c.in-Some.end + 1) c.args.text.now ∙ ap (λ n. drop n c.args.text.now) e

pub returns-in-None-clause-line : goal.returns-in-None-clause-line
returns-in-None-clause-line c =
    let l = line_last c.args.text.now (sym c.line_end.ensures ∙ c.in-None.is) in
    c.split_at.ensures.front ∙ take_all _ c.args.text.now (omega arith) ∙ sym (take_all _ c.args.text.now l)

pub returns-in-None-clause-rest : goal.returns-in-None-clause-rest
unfolding after_line
returns-in-None-clause-rest c =
    let l = line_last c.args.text.now (sym c.line_end.ensures ∙ c.in-None.is) in
    c.split_at.ensures.back ∙ drop_of_length-le c.args.text.now {i = length c.args.text.now} (omega arith)
    ∙ sym (drop_of_length-le c.args.text.now {i = suc (line_length c.args.text.now)} (omega arith))
