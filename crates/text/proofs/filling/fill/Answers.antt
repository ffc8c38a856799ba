-- By whether there is room.
-- Assumes nothing.
use mathlib.Core.List.{[], ◌∷◌}
use native.Mathlib.Omega.{arith}
use Rattle.text.proofs.Pieces.{fill_put, fill_none}
use Rattle.text.proofs.filling.fill.Goals as goal

pub returns-then-out-text-clause-value : goal.returns-then-out-text-clause-value
returns-then-out-text-clause-value c =
    let a = c.args in
    (fill_none a.out.now a.text.now (a.x ∷ a.y ∷ a.z ∷ []) (omega arith)).0

pub returns-then-out-text-clause-out_after : goal.returns-then-out-text-clause-out_after
returns-then-out-text-clause-out_after c =
    let a = c.args in
    (fill_none a.out.now a.text.now (a.x ∷ a.y ∷ a.z ∷ []) (omega arith)).1

pub returns-clause-value : goal.returns-clause-value
returns-clause-value c =
    let a = c.args in
    (fill_put a.out.now _ a.text.now (a.x ∷ a.y ∷ a.z ∷ []) _ (omega arith) c.put_filled.ensures.put).0

pub returns-clause-out_after : goal.returns-clause-out_after
returns-clause-out_after c =
    let a = c.args in
    (fill_put a.out.now _ a.text.now (a.x ∷ a.y ∷ a.z ∷ []) _ (omega arith) c.put_filled.ensures.put).1
