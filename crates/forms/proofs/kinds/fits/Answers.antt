-- The form's words and the line's side by side.
-- Assumes nothing.
use Rattle.std.proofs.Common.{◌≡◌, eqb, length, sym, ◌∙◌, rules}
use Rattle.words.specs.Words.{words_of}
use Rattle.forms.proofs.Fitting.{both_end, both_short, both_off, both_on}
use Rattle.forms.proofs.kinds.fits.Goals as goal

pub returns-then-not-word_fits : goal.returns-then-not-word_fits
returns-then-not-word_fits c =
    both_off _ _ _ c.loop-mark.invariant _ _ c.in-Some.ensures.steps _ _ c.in-Some-next.ensures.steps (sym c.word_fits.ensures
    ∙ c.if-not-word_fits.true)

pub returns-in_default : goal.returns-in_default
returns-in_default c =
    let none = rw c.in_default.is at c.next-in-loop-mark.ensures.steps in
    both_short _ _ _ c.loop-mark.invariant _ _ c.in-Some.ensures.steps none.0

pub loop-mark-preserved : goal.loop-mark-preserved
loop-mark-preserved c =
    both_on _ _ _ c.loop-mark.invariant _ _ c.in-Some.ensures.steps _ _ c.in-Some-next.ensures.steps (sym c.word_fits.ensures
    ∙ c.if-not-word_fits.false)

pub returns : goal.returns
returns c =
    let h : c.is_none.result ≡ eqb (length (words_of c.loop-mark.words.0.now)) 0 = search rules in
    h ∙ both_end _ _ _ c.loop-mark.invariant c.in-None.ensures.steps.0
