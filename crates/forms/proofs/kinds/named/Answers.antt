-- One name after the other.
-- Assumes nothing.
use Rattle.std.proofs.Common.{refl}
use Rattle.text.specs.Ascii.{ascii}
use Rattle.words.proofs.Alike.{alike}
use Rattle.forms.specs.Forms.{names, place_in}
use Rattle.forms.proofs.kinds.named.Goals as goal

pub returns-then-eq : goal.returns-then-eq
unfolding ascii names place_in
returns-then-eq c = rw (
    alike _ _ _ c.eq.ensures c.as_slice.ensures c.if-eq.true
    ) refl

pub returns-then-eq-2 : goal.returns-then-eq-2
unfolding ascii names place_in
returns-then-eq-2 c = rw (
  alike _ _ _ c.eq.ensures c.as_slice.ensures c.if-eq.false,
  alike _ _ _ c.eq-else-eq.ensures c.as_slice-else-eq.ensures c.if-eq-2.true,
) refl

pub returns-then-eq-3 : goal.returns-then-eq-3
unfolding ascii names place_in
returns-then-eq-3 c = rw (
  alike _ _ _ c.eq.ensures c.as_slice.ensures c.if-eq.false,
  alike _ _ _ c.eq-else-eq.ensures c.as_slice-else-eq.ensures c.if-eq-2.false,
  alike _ _ _ c.eq-else-eq-2.ensures c.as_slice-else-eq-2.ensures c.if-eq-3.true,
) refl

pub returns-then-eq-4 : goal.returns-then-eq-4
unfolding ascii names place_in
returns-then-eq-4 c = rw (
  alike _ _ _ c.eq.ensures c.as_slice.ensures c.if-eq.false,
  alike _ _ _ c.eq-else-eq.ensures c.as_slice-else-eq.ensures c.if-eq-2.false,
  alike _ _ _ c.eq-else-eq-2.ensures c.as_slice-else-eq-2.ensures c.if-eq-3.false,
  alike _ _ _ c.eq-else-eq-3.ensures c.as_slice-else-eq-3.ensures c.if-eq-4.true,
) refl

pub returns-then-eq-5 : goal.returns-then-eq-5
unfolding ascii names place_in
returns-then-eq-5 c = rw (
  alike _ _ _ c.eq.ensures c.as_slice.ensures c.if-eq.false,
  alike _ _ _ c.eq-else-eq.ensures c.as_slice-else-eq.ensures c.if-eq-2.false,
  alike _ _ _ c.eq-else-eq-2.ensures c.as_slice-else-eq-2.ensures c.if-eq-3.false,
  alike _ _ _ c.eq-else-eq-3.ensures c.as_slice-else-eq-3.ensures c.if-eq-4.false,
  alike _ _ _ c.eq-else-eq-4.ensures c.as_slice-else-eq-4.ensures c.if-eq-5.true,
) refl

pub returns-else-eq-5 : goal.returns-else-eq-5
unfolding ascii names place_in
returns-else-eq-5 c = rw (
  alike _ _ _ c.eq.ensures c.as_slice.ensures c.if-eq.false,
  alike _ _ _ c.eq-else-eq.ensures c.as_slice-else-eq.ensures c.if-eq-2.false,
  alike _ _ _ c.eq-else-eq-2.ensures c.as_slice-else-eq-2.ensures c.if-eq-3.false,
  alike _ _ _ c.eq-else-eq-3.ensures c.as_slice-else-eq-3.ensures c.if-eq-4.false,
  alike _ _ _ c.eq-else-eq-4.ensures c.as_slice-else-eq-4.ensures c.if-eq-5.false,
) refl
