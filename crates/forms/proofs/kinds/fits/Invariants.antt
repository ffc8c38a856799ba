-- What is left of the line is of what is left of the form exactly when the line is of the form.
-- Assumes nothing.
use Rattle.std.proofs.Common.{◌≡◌}
use Rattle.words.specs.Words.{words_of}
use Rattle.forms.specs.Forms.{fits}
use Rattle.forms.proofs.kinds.fits.Given as goal

abbrev pub invariant-loop-mark : goal.invariant-loop-mark
invariant-loop-mark l = fits (words_of l.mark-iterator.0.now) (words_of l.words.0.now) ≡ fits (words_of l.form) (words_of l.line)
