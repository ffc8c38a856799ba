-- Assumes nothing.
use Rattle.std.proofs.Common.{arith, rules}
use Rattle.std.proofs.lemmas.Grind.{common_steps}
use Rattle.arith.specs.Sum.{sum}
use Rattle.passes.proofs.Columns.{filled}
use Rattle.passes.proofs.Prefixes.{running_next}
use Rattle.passes.proofs.lines.running_sums.Goals as goal

pub loop-place-init : goal.loop-place-init
unfolding sum
loop-place-init c = search rules

pub loop-place-preserved : goal.loop-place-preserved
loop-place-preserved c = let line = c.args.line.now in
    let k = c.loop-place.place-index in
    let h = c.loop-place.invariant in
    let e = running_next line k _ _ h.sum (h.rest k (omega arith)) in
    record {
      done = grind (arith, common_steps, e, h.done);
      rest = grind (arith, common_steps, h.rest);
      sum = e;
    }

pub returns : goal.returns
returns c = filled _ _ _ 0 (omega arith) (λ k below. c.loop-place.invariant.done k (omega arith))
