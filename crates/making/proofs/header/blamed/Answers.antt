-- By the question; a no to question 5 by the shift.
-- Assumes nothing.
use Rattle.std.proofs.Common.{sym, ap, ◌∙◌}
use Rattle.layout.specs.declared.asking.Question.TheVariants.{Bits, Drops}
use Rattle.layout.specs.Questions.{number_of}
use Rattle.layout.proofs.Answers.{number_injective}
use Rattle.making.specs.Steps.{blamed_of}
use Rattle.making.proofs.Numbers.{blame_word, blame_shift}
use Rattle.making.proofs.header.blamed.Goals as goal

pub returns-in-Bits : goal.returns-in-Bits
returns-in-Bits c = ap (λ l. l.place) c.head_line.ensures ∙ ap (λ q. blamed_of c.args.text.now (number_of q)) (sym c.in-Bits.is)

pub returns-in-Drops : goal.returns-in-Drops
returns-in-Drops c = ap (λ l. l.place) c.head_line-in-Drops.ensures ∙ ap (λ q. blamed_of c.args.text.now (number_of q)) (sym c.in-Drops.is)

pub returns-then-byte_of-le31 : goal.returns-then-byte_of-le31
returns-then-byte_of-le31 c =
    ap (λ l. l.place) c.head_line-then-byte_of-le31.ensures
    ∙ blame_word _ _ c.byte_of.result (λ e. c.in_default.not-Bits (number_injective _ Bits e)) (λ e. c.in_default.not-Drops
    (number_injective _ Drops e))
    c.byte_of.ensures c.if-byte_of-le31.true

pub returns-else-byte_of-le31 : goal.returns-else-byte_of-le31
returns-else-byte_of-le31 c =
    ap (λ l. l.place) c.head_line-else-byte_of-le31.ensures
    ∙ blame_shift _ _ c.byte_of.result (λ e. c.in_default.not-Bits (number_injective _ Bits e)) (λ e. c.in_default.not-Drops
    (number_injective _ Drops e))
    c.byte_of.ensures c.if-byte_of-le31.false
