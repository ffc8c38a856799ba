-- By the form's word: a number, an integer, or the word itself.
-- Assumes nothing.
use Rattle.std.proofs.Common.{◌∙◌}
use Rattle.text.specs.Ascii.{ascii}
use Rattle.words.proofs.Alike.{alike, same_is}
use Rattle.forms.specs.Forms.{word_fits}
use Rattle.forms.proofs.kinds.word_fits.Goals as goal

pub returns-then-eq : goal.returns-then-eq
unfolding ascii word_fits
returns-then-eq c = rw (alike _ _ _ c.eq.ensures c.as_slice.ensures c.if-eq.true) c.is_number.ensures

pub returns-then-eq-2 : goal.returns-then-eq-2
unfolding ascii word_fits
returns-then-eq-2 c =
    rw (alike _ _ _ c.eq.ensures c.as_slice.ensures c.if-eq.false, alike _ _ _ c.eq-else-eq.ensures c.as_slice-else-eq.ensures c.if-eq-2.true) c.is_integer.ensures

pub returns-else-eq-2 : goal.returns-else-eq-2
unfolding ascii word_fits
returns-else-eq-2 c =
    rw (alike _ _ _ c.eq.ensures c.as_slice.ensures c.if-eq.false, alike _ _ _ c.eq-else-eq.ensures c.as_slice-else-eq.ensures c.if-eq-2.false)
    (c.eq-else-eq-2.ensures ∙ same_is _ _)
