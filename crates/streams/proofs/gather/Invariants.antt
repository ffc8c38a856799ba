-- Each turn has more bytes than the one before, up to the most.
use Rattle.std.proofs.Common.{◌-◌, ◌≤◌}
use Rattle.streams.proofs.gather.Given as goal

abbrev pub invariant-loop-end : goal.invariant-loop-end
invariant-loop-end g l = (l.have ≤ l.end) × (l.end ≤ l.most)

abbrev pub decreases-loop-end : goal.decreases-loop-end
decreases-loop-end g l = l.most - l.end
