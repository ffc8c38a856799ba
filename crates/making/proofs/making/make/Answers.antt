-- Why there is no table, or the table's file written.
-- Assumes nothing.
use Rattle.std.proofs.Common.{◌≡◌, Err, sym, ap, ◌∙◌, rules}
use Rattle.layout.specs.Answers.{wrote}
use Rattle.table.specs.Writing.{written_said}
use Rattle.making.specs.declared.error.MakeError.TheVariants.{Rule}
use Rattle.making.specs.Errors.{made_said, made_given}
use Rattle.making.proofs.Written.{error_left, written_left}
use Rattle.making.proofs.making.make.Goals as goal

pub returns-in_err-t : goal.returns-in_err-t
returns-in_err-t c =
    let e : c.from_residual.result ≡ Err c.in_err-t.field-0.0 = search rules in
    ap (λ r. wrote (made_said r) c.args.out.now) e ∙ error_left _ _ c.in_err-t.field-0.0 (ap made_given (sym c.in_err-t.was) ∙ c.made.ensures)

pub returns-in_err-write : goal.returns-in_err-write
returns-in_err-write c =
    let e : c.from_residual-in_err-write.result ≡ Err (Rule c.in_err-write.field-0.0) = search rules in
    ap (λ r. wrote (made_said r) c.write.new.out) e ∙ ap (λ r. wrote (written_said r) c.write.new.out) (sym c.in_err-write.was) ∙ c.write.ensures
    ∙ written_left _ _ _ (ap made_given (sym c.in_ok-t.was) ∙ c.made.ensures)

pub returns : goal.returns
returns c =
    ap (λ r. wrote (written_said r) c.write.new.out) (sym c.in_ok-write.was) ∙ c.write.ensures
    ∙ written_left _ _ _ (ap made_given (sym c.in_ok-t.was) ∙ c.made.ensures)
