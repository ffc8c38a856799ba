-- After question 14 the width is not 0.
use Rattle.std.proofs.Common.{rules}
use Rattle.rule.proofs.Asked.{width_bounds}
use Rattle.scan.proofs.States.{agreed}
use Rattle.burst.proofs.handing.ask.Goals as goal

pub nonzero_rem-rows : goal.nonzero_rem-rows
nonzero_rem-rows c = (width_bounds (agreed c.args.s (search rules)).width).0
