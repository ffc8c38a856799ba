use Rattle.std.proofs.Common.{rules}
use Rattle.machine.specs.Calls.{machine, step_arrival, step_in, zeros}
use Rattle.machine.proofs.Lefts.{moved_by, zeros_line}
use Rattle.machine.proofs.steps.take_step.Goals as goal

pub returns-in_err-arrive : goal.returns-in_err-arrive
returns-in_err-arrive g c =
    let s = c.args.state.now in
    let narrow = (c.state_good.ensures.bounds (search rules)).1 in
    let e = moved_by g.F.Filter.rules (machine s c.args.filter.now) (step_in s) (step_arrival s) (zeros s) c.args.out.now
    (rw (c.arrival-arrival.ensures, zeros_line s.width narrow) at c.arrive.ensures) in
    search (rules, e)

pub returns : goal.returns
returns g c =
    let s = c.args.state.now in
    let narrow = (c.state_good.ensures.bounds (search rules)).1 in
    let e = moved_by g.F.Filter.rules (machine s c.args.filter.now) (step_in s) (step_arrival s) (zeros s) c.args.out.now
    (rw (c.arrival-arrival.ensures, zeros_line s.width narrow) at c.arrive.ensures) in
    search (rules, e)
