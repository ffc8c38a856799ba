-- Number k of the line.
-- Assumes nothing.
use Rattle.std.proofs.Common.{min, ap, ◌∙◌}
use Rattle.forms.specs.Forms.{size_at}
use Rattle.making.specs.Steps.{held_at}
use Rattle.making.proofs.header.byte_of.Goals as goal

pub returns : goal.returns
unfolding held_at
returns c = c.byte.ensures ∙ ap (λ l. min 255 (size_at l.words c.args.k)) c.head_line.ensures
