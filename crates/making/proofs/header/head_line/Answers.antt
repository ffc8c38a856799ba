-- The first line of the kind.
-- Assumes nothing.
use Rattle.std.proofs.Common.{[], get_or, ap, ◌∙◌}
use Rattle.making.specs.Making.{line, head_line}
use Rattle.making.specs.Steps.{line_said}
use Rattle.making.proofs.Heads.{first_is, no_words}
use Rattle.making.proofs.header.head_line.Goals as goal

pub returns : goal.returns
unfolding head_line
returns c =
    ap line_said c.unwrap_or.ensures ∙ first_is c.next.result _ _ _ c.next.ensures.steps (ap (line 0) no_words)
    ∙ ap (λ ls. get_or ls 0 (line 0 [])) c.of.ensures.left
