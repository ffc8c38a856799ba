-- By the length, by what is asked before the rectangles, by the rectangles.
-- Assumes nothing.
use Rattle.std.proofs.Common.{◌≡◌, length, Err, [], sym, ap, ◌∙◌, rules}
use borrow.Author.Tests.{leb-true, leb-false}
use Rattle.table.specs.Format.{given, handed_out}
use Rattle.forms.proofs.Looks.{asked_no, asked_yes}
use Rattle.making.specs.declared.error.MakeError.TheVariants.{Rule, Text}
use Rattle.making.specs.Errors.{answer_said, made_given}
use Rattle.making.proofs.Outcomes.{error_stops, long_given, make_goes}
use Rattle.making.proofs.making.made.Goals as goal

pub returns-in_err-unless : goal.returns-in_err-unless
returns-in_err-unless c =
    let n = asked_no _ _ _ _ (sym c.in_err-unless.was ∙ c.unless.ensures) in
    let e : c.from_residual.result ≡ Err (Text c.in_err-unless.field-0.0) = search rules in
    ap made_given e ∙ long_given c.args.text.now _ n.1 (leb-false (length c.args.text.now) 65535 n.0)

pub returns-in_err-asked : goal.returns-in_err-asked
returns-in_err-asked c =
    let y = leb-true (length c.args.text.now) 65535 (asked_yes _ _ _ (sym c.in_ok-unless.was ∙ c.unless.ensures)) in
    let e : c.from_residual-in_err-asked.result ≡ Err c.in_err-asked.field-0.0 = search rules in
    ap made_given e ∙ error_stops _ y c.in_err-asked.field-0.0 (ap (answer_said (λ x. [])) (sym c.in_err-asked.was) ∙ c.asked.ensures)

pub returns-in_err-fitted : goal.returns-in_err-fitted
returns-in_err-fitted c =
    let y = leb-true (length c.args.text.now) 65535 (asked_yes _ _ _ (sym c.in_ok-unless.was ∙ c.unless.ensures)) in
    let e : c.from_residual-in_err-fitted.result ≡ Err (Rule c.in_err-fitted.field-0.0) = search rules in
    ap made_given e ∙ ap given (sym c.in_err-fitted.was) ∙ c.fitted.ensures
    ∙ ap handed_out (make_goes _ y (sym c.asked.ensures ∙ ap (answer_said (λ x. [])) c.in_ok-asked.was))

pub returns : goal.returns
returns c =
    let y = leb-true (length c.args.text.now) 65535 (asked_yes _ _ _ (sym c.in_ok-unless.was ∙ c.unless.ensures)) in
    ap given (sym c.in_ok-fitted.was) ∙ c.fitted.ensures
    ∙ ap handed_out (make_goes _ y (sym c.asked.ensures ∙ ap (answer_said (λ x. [])) c.in_ok-asked.was))
