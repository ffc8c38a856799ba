use Rattle.std.proofs.Common.{rules}
use Rattle.machine.specs.Calls.{machine}
use Rattle.machine.proofs.Goods.{agrees_bounds}
use Rattle.machine.proofs.states.state_good.Goals as goal

pub returns-then-state-clause-bounds : goal.returns-then-state-clause-bounds
returns-then-state-clause-bounds g c = λ e. agrees_bounds g.F.Filter.rules (machine c.args.state c.args.filter.now) (search (rules, e)) c.delay-delay.ensures.value c.delay-delay.ensures.upper_bound

pub returns-else-state-clause-bounds : goal.returns-else-state-clause-bounds
returns-else-state-clause-bounds g c = λ e. agrees_bounds g.F.Filter.rules (machine c.args.state c.args.filter.now) (search (rules, e)) c.delay-delay.ensures.value c.delay-delay.ensures.upper_bound
