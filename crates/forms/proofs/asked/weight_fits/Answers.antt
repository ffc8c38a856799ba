-- The size held at 65,536 fits alike.
-- Assumes nothing.
use Rattle.std.proofs.Common.{leb, cond, ap, ap₂, ◌∙◌}
use Rattle.words.specs.Words.{integer}
use Rattle.forms.specs.Forms.{integer_at}
use Rattle.forms.proofs.Signs.{held_fits}
use Rattle.forms.proofs.asked.weight_fits.Goals as goal

pub returns : goal.returns
unfolding integer_at integer
returns c =
    let n = c.number-n.ensures in
    ap₂ leb n.size_value (c.from.ensures ∙ c.weight_most.ensures ∙ ap (λ m. cond m 32768 32767) n.minus_value) ∙ held_fits _ _
