-- The form of each kind.
-- Assumes nothing.
use Rattle.std.proofs.Common.{[], get_or, sym, ap}
use Rattle.text.specs.Ascii.{ascii}
use Rattle.forms.specs.Forms.{forms, kind_number}
use Rattle.forms.proofs.kinds.Kind.form.Goals as goal

pub returns-in-Bits : goal.returns-in-Bits
unfolding ascii forms
returns-in-Bits c = ap (λ k. get_or forms (kind_number k) []) (sym c.in-Bits.is)

pub returns-in-Drops : goal.returns-in-Drops
unfolding ascii forms
returns-in-Drops c = ap (λ k. get_or forms (kind_number k) []) (sym c.in-Drops.is)

pub returns-in-Shift : goal.returns-in-Shift
unfolding ascii forms
returns-in-Shift c = ap (λ k. get_or forms (kind_number k) []) (sym c.in-Shift.is)

pub returns-in-Word : goal.returns-in-Word
unfolding ascii forms
returns-in-Word c = ap (λ k. get_or forms (kind_number k) []) (sym c.in-Word.is)

pub returns-in-Rectangle : goal.returns-in-Rectangle
unfolding ascii forms
returns-in-Rectangle c = ap (λ k. get_or forms (kind_number k) []) (sym c.in-Rectangle.is)
