-- The drops of a table within the limits are at most 27 bits.
use Rattle.std.proofs.Common.{rules, arith}
use Rattle.limits.proofs.Granted.{granted}
use Rattle.arrival.proofs.arriving.Arriving.dropped.Goals as goal

pub overflow_add-result : goal.overflow_add-result
overflow_add-result c = let g = granted _ c.args.self.now.table_good in
    let x = g.q1_less in
    let y = g.bits_most in
    let z = g.q2_most in
    search (rules, x, y, z)

pub overflow_add-result-2 : goal.overflow_add-result-2
overflow_add-result-2 c = let g = granted _ c.args.self.now.table_good in
    let x = g.q1_less in
    let y = g.bits_most in
    let z = g.q2_most in
    let w = g.q3_most in
    search (rules, x, y, z, w)

pub returns-clause-upper_bound : goal.returns-clause-upper_bound
returns-clause-upper_bound c = let g = granted _ c.args.self.now.table_good in
    let x = g.q1_less in
    let y = g.bits_most in
    let z = g.q2_most in
    let w = g.q3_most in
    omega arith
