-- The questions in the definition's order.
-- Assumes nothing.
use Rattle.std.proofs.Common.{◌≡◌, sym, ap, ◌∙◌, Err, rules}
use Rattle.forms.specs.declared.faults.TextFault.TheVariants.{Weight}
use Rattle.forms.specs.Faults.{fault_asked, text_said}
use Rattle.forms.specs.Forms.{kind_said}
use Rattle.forms.proofs.Looks.{asked_no, asked_yes, look_blank, look_unknown, look_form, look_good}
use Rattle.forms.proofs.asked.look.Goals as goal

pub returns-then-blank : goal.returns-then-blank
returns-then-blank c = look_blank _ _ (sym c.blank.ensures ∙ c.if-blank.true)

pub returns-in_default : goal.returns-in_default
returns-in_default c = look_unknown _ _ (sym c.blank.ensures ∙ c.if-blank.false) (ap kind_said (sym c.in_default.is) ∙ c.of.ensures)

pub returns-in_err-unless : goal.returns-in_err-unless
returns-in_err-unless c =
    let e : c.from_residual.result ≡ Err c.in_err-unless.field-0.0 = search rules in
    let n = asked_no _ _ _ _ (sym c.in_err-unless.was ∙ c.unless.ensures) in
    ap text_said e ∙ n.1
    ∙ look_form _ _ (sym c.blank.ensures ∙ c.if-blank.false) _ (ap kind_said (sym c.in-Some.is)
    ∙ c.of.ensures) _ c.form_fault.ensures (sym c.of_form.ensures ∙ n.0)

pub returns : goal.returns
returns c =
    ap text_said (c.unless-2.ensures ∙ ap (λ b. fault_asked Weight b c.args.place) c.weight_good.ensures)
    ∙ look_good _ _ (sym c.blank.ensures ∙ c.if-blank.false) _ (ap kind_said (sym c.in-Some.is) ∙ c.of.ensures)
    (sym c.of_form.ensures ∙ asked_yes _ _ _ (sym c.in_ok-unless.was ∙ c.unless.ensures))
