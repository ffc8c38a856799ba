-- Each turn has less than a row over, and fewer rows left.
use Rattle.std.proofs.Common.{◌<◌}
use Rattle.stripfilter.proofs.rows.rows.Given as goal

abbrev pub invariant-loop-left : goal.invariant-loop-left
invariant-loop-left g l = l.have < l.need

abbrev pub decreases-loop-left : goal.decreases-loop-left
decreases-loop-left g l = l.left
