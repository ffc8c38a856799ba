-- The first word is looked for among the names.
-- Assumes nothing.
use Rattle.std.proofs.Common.{ap, ◌∙◌}
use Rattle.forms.specs.Forms.{names, place_in, kind_of}
use Rattle.forms.proofs.kinds.Kind.of.Goals as goal

pub returns : goal.returns
unfolding kind_of
returns c = c.named.ensures ∙ ap (place_in names) c.word.ensures.value
