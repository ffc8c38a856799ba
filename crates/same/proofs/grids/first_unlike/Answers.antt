-- The first offset where the weights are not equal is the lowest.
use Rattle.std.proofs.Common.{sym, ap, not, arith, rules}
use Rattle.arith.proofs.Bools.{no}
use Rattle.arith.proofs.Firsts.{first_at, first_none}
use Rattle.same.specs.Same.{alike_at, first_unlike}
use Rattle.same.proofs.grids.first_unlike.Goals as goal

pub returns-then-not-alike-clause-first : goal.returns-then-not-alike-clause-first
unfolding first_unlike
returns-then-not-alike-clause-first c =
    let a = c.args in
    sym (first_at 961 (alike_at a.one.now a.other.now) c.loop-k.k (search rules) c.loop-k.invariant (no c.alike.ensures (ap not c.if-not-alike.true)))

pub returns-clause-first : goal.returns-clause-first
unfolding first_unlike
returns-clause-first c =
    let a = c.args in
    sym (first_none 961 (alike_at a.one.now a.other.now) (λ j l. c.loop-k.invariant j (omega arith)))
