-- The first line, and those behind it.
-- Assumes nothing.
use Rattle.std.proofs.Common.{length, refl, ap, arith, rules, add-one}
use Rattle.making.proofs.Findings.{lines_end, lines_more}
use Rattle.making.proofs.lines.PlacedIterator.next.Goals as goal

pub returns-in_err-bytes-clause-steps : goal.returns-in_err-bytes-clause-steps
returns-in_err-bytes-clause-steps c = let e = lines_end _ c.in_err-bytes.ensures.steps.0 in rw c.from_residual.ensures (e, e)

pub invariant_of-self : goal.invariant_of-self
invariant_of-self c =
    let more = ap length (lines_more _ _ _ c.in_ok-bytes.ensures.steps) in
    let few = c.args.self.now.few in
    record { few = omega arith }

pub returns-clause-steps : goal.returns-clause-steps
returns-clause-steps c = (refl, add-one _, lines_more _ _ _ c.in_ok-bytes.ensures.steps)

pub returns-clause-goes : goal.returns-clause-goes
returns-clause-goes c = let shorter = ap length (lines_more _ _ _ c.in_ok-bytes.ensures.steps) in search rules
