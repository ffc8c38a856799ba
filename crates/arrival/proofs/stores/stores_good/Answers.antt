-- `arrival::stores_good` divides where the definition multiplies, so that nothing wraps: k·l ≤ n exactly when l ≤ n / k (`divided`).
use Rattle.std.proofs.Common.{rules, refl, sym, zero-mul, zero-le, le-leb}
use Rattle.std.proofs.lemmas.Bool.{lt-leb}
use Rattle.arith.proofs.Cut.{divided}
use Rattle.arrival.specs.Arrivals.{stores_good}
use Rattle.arrival.proofs.stores.stores_good.Goals as goal

pub returns-then-count-eq0 : goal.returns-then-count-eq0
unfolding stores_good
returns-then-count-eq0 c = let a = c.args in
    rw (divided 32 a.width a.samples (search rules), le-leb _ _ c.if-width-samples.true, c.if-count-eq0.true, zero-mul a.width)
    (rw (le-leb 0 a.sums zero-le) refl)

pub returns-else-count-eq0 : goal.returns-else-count-eq0
unfolding stores_good
returns-else-count-eq0 c = let a = c.args in
    rw (divided 32 a.width a.samples (search rules), le-leb _ _ c.if-width-samples.true)
    (sym (divided a.count a.width a.sums (search rules)))

pub returns-else-width-samples : goal.returns-else-width-samples
unfolding stores_good
returns-else-width-samples c = let a = c.args in
    rw (divided 32 a.width a.samples (search rules), lt-leb _ _ c.if-width-samples.false) refl
