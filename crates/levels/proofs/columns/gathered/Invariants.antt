-- `levels::gathered`: a OR b is below neither a nor b, so that each count passed is at most what is gathered.
-- Assumes nothing.
use Rattle.std.proofs.Common.{ℕ, ◌≤◌, ◌<◌, get_or}
use Rattle.levels.proofs.columns.gathered.Given as goal

abbrev pub invariant-loop-count : goal.invariant-loop-count
invariant-loop-count l = (u : ℕ) → u < l.count-index → get_or l.col u 0 ≤ l.all
