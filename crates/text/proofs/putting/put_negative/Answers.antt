-- The digits stand in a buffer with the byte after them and a sign in front.
-- Assumes nothing.
use Rattle.text.proofs.Cells.{negative_lent}
use Rattle.text.proofs.putting.put_negative.Goals as goal

pub returns-clause-value : goal.returns-clause-value
returns-clause-value c =
    let a = c.args in
    let d = c.digits-start.ensures in
    rw (negative_lent c.digits-start.new.buf c.digits-start.result a.n a.end d.3 d.0 d.1 d.2) at c.put_bytes.ensures.value

pub returns-clause-out_after : goal.returns-clause-out_after
returns-clause-out_after c =
    let a = c.args in
    let d = c.digits-start.ensures in
    rw (negative_lent c.digits-start.new.buf c.digits-start.result a.n a.end d.3 d.0 d.1 d.2) at c.put_bytes.ensures.out_after
