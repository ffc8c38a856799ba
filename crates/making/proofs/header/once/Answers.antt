-- The first line of the kind, and the next.
-- Assumes nothing.
use Rattle.std.proofs.Common.{sym, ◌∙◌}
use Rattle.making.proofs.Heads.{once_none, once_one, once_two}
use Rattle.making.proofs.header.once.Goals as goal

pub returns-in_default : goal.returns-in_default
returns-in_default c =
    let s = rw c.in_default.is at c.next.ensures.steps in
    once_none _ _ _ c.requires.missing (sym c.of-lines.ensures.left ∙ s.0)

pub returns-in-None : goal.returns-in-None
returns-in-None c = once_one _ _ _ _ (sym c.of-lines.ensures.left ∙ c.in-Some.ensures.steps) c.in-None.ensures.steps.0

pub returns-in-Some-next : goal.returns-in-Some-next
returns-in-Some-next c = once_two _ _ _ _ (sym c.of-lines.ensures.left ∙ c.in-Some.ensures.steps) _ _ c.in-Some-next.ensures.steps
