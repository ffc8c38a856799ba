-- Questions 3 to 5 on the numbers held at 255, which are answered alike, with the line that a no is said of.
-- Assumes nothing.
use Rattle.std.proofs.Common.{sym, ap, ◌∙◌}
use Rattle.layout.specs.Answers.{refused, verdict, said}
use Rattle.layout.specs.Questions.{number_of}
use Rattle.limits.specs.Limits.{head_asks}
use Rattle.making.proofs.Numbers.{numbers_are}
use Rattle.making.proofs.header.numbers.Goals as goal

pub returns-in-Ok : goal.returns-in-Ok
returns-in-Ok c =
    numbers_are c.args.text.now
    (ap said (sym c.in-Ok.is) ∙ c.ask.ensures ∙ ap (λ h. verdict (head_asks h.b h.q1 h.q2 h.q3 h.t h.w)) c.header.ensures)

pub returns-in-Err : goal.returns-in-Err
returns-in-Err c =
    ap (refused (number_of c.in-Err.no.question)) c.blamed.ensures
    ∙ numbers_are c.args.text.now
    (ap said (sym c.in-Err.is) ∙ c.ask.ensures ∙ ap (λ h. verdict (head_asks h.b h.q1 h.q2 h.q3 h.t h.w)) c.header.ensures)
