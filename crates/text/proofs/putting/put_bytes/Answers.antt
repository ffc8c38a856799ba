-- By whether there is room.
-- Assumes nothing.
use native.Mathlib.Omega.{arith}
use Rattle.text.proofs.Puts.{no_room, put_is}
use Rattle.text.proofs.putting.put_bytes.Goals as goal

pub returns-then-out-text-clause-value : goal.returns-then-out-text-clause-value
returns-then-out-text-clause-value c =
    let a = c.args in
    (no_room a.out.now a.at a.text.now (omega arith)).0

pub returns-then-out-text-clause-out_after : goal.returns-then-out-text-clause-out_after
returns-then-out-text-clause-out_after c =
    let a = c.args in
    (no_room a.out.now a.at a.text.now (omega arith)).1

pub returns-then-out-text-2-clause-value : goal.returns-then-out-text-2-clause-value
returns-then-out-text-2-clause-value c =
    let a = c.args in
    (no_room a.out.now a.at a.text.now (omega arith)).0

pub returns-then-out-text-2-clause-out_after : goal.returns-then-out-text-2-clause-out_after
returns-then-out-text-2-clause-out_after c =
    let a = c.args in
    (no_room a.out.now a.at a.text.now (omega arith)).1

pub returns-clause-value : goal.returns-clause-value
returns-clause-value c =
    (put_is c.copy.ensures).0

pub returns-clause-out_after : goal.returns-clause-out_after
returns-clause-out_after c =
    (put_is c.copy.ensures).1
