-- The lines, the header's lines, the header's numbers.
-- Assumes nothing.
use Rattle.std.proofs.Common.{◌≡◌, ℕ, List, ◌++◌, Err, [], sym, ap, ◌∙◌, rules}
use Rattle.layout.specs.Answers.{Question, said}
use Rattle.words.specs.Words.{lines_of}
use Rattle.making.specs.declared.error.MakeError.TheVariants.{Rule, Text}
use Rattle.making.specs.Errors.{answer_said}
use Rattle.making.specs.Making.{lines_ask, all_once, numbers_ask, contents_of, head_asks}
use Rattle.making.proofs.Chains.{text_stops, text_goes}
use Rattle.making.proofs.asked.asked.Goals as goal

abbrev each : (text : List ℕ) → List Question
each text = lines_ask 1 (lines_of text)

abbrev of_numbers : (text : List ℕ) → List Question
of_numbers text = numbers_ask text (contents_of text)

pub returns-in_err-lines : goal.returns-in_err-lines
unfolding head_asks
returns-in_err-lines c =
    let t = c.args.text.now in
    let e : c.from_residual.result ≡ Err (Text c.in_err-lines.field-0.0) = search rules in
    ap (answer_said (λ x. [])) e ∙ text_stops (each t) (all_once t ++ of_numbers t) _ c.lines.ensures _ c.in_err-lines.was

pub returns-in_err-all_once : goal.returns-in_err-all_once
unfolding head_asks
returns-in_err-all_once c =
    let t = c.args.text.now in
    let e : c.from_residual-in_err-all_once.result ≡ Err (Text c.in_err-all_once.field-0.0) = search rules in
    ap (answer_said (λ x. [])) e ∙ text_stops (all_once t) (of_numbers t) _ c.all_once.ensures _ c.in_err-all_once.was
    ∙ text_goes (each t) (all_once t ++ of_numbers t) _ c.lines.ensures c.in_ok-lines.was

pub returns-in_err-numbers : goal.returns-in_err-numbers
unfolding head_asks
returns-in_err-numbers c =
    let t = c.args.text.now in
    let e : c.from_residual-in_err-numbers.result ≡ Err (Rule c.in_err-numbers.field-0.0) = search rules in
    ap (answer_said (λ x. [])) e ∙ ap said (sym c.in_err-numbers.was) ∙ c.numbers.ensures
    ∙ text_goes (all_once t) (of_numbers t) _ c.all_once.ensures c.in_ok-all_once.was
    ∙ text_goes (each t) (all_once t ++ of_numbers t) _ c.lines.ensures c.in_ok-lines.was

pub returns : goal.returns
unfolding head_asks
returns c =
    let t = c.args.text.now in
    ap said (sym c.in_ok-numbers.was) ∙ c.numbers.ensures
    ∙ text_goes (all_once t) (of_numbers t) _ c.all_once.ensures c.in_ok-all_once.was
    ∙ text_goes (each t) (all_once t ++ of_numbers t) _ c.lines.ensures c.in_ok-lines.was
