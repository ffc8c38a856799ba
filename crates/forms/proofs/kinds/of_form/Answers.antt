-- By the form of the kind.
-- Assumes nothing.
use Rattle.std.proofs.Common.{ap, ◌∙◌}
use Rattle.words.specs.Words.{words_of}
use Rattle.forms.specs.Forms.{form, fits}
use Rattle.forms.proofs.kinds.of_form.Goals as goal

pub returns : goal.returns
unfolding form
returns c = c.fits.ensures ∙ ap (λ f. fits (words_of f) (words_of c.args.line.now)) c.form.ensures
