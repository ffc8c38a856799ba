-- Nothing for 0, else the word and the number.
-- Assumes nothing.
use Rattle.std.proofs.Common.{arith, eq-eqb, ne_eqb}
use Rattle.text.specs.Ascii.{ascii}
use Rattle.text.proofs.Puts.{put_none}
use Rattle.faults.specs.Faults.{place_text}
use Rattle.faults.proofs.put_place.Goals as goal

pub returns-then-place-eq0-clause-put : goal.returns-then-place-eq0-clause-put
unfolding place_text
returns-then-place-eq0-clause-put c =
    let h = c.requires in
    rw (eq-eqb _ _ c.if-place-eq0.true) (put_none _ _ (omega arith))

pub returns-clause-put : goal.returns-clause-put
unfolding ascii place_text
returns-clause-put c = rw (ne_eqb _ _ c.if-place-eq0.false) c.put_numbered.ensures.put
