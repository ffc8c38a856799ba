-- A scan that is taken is within the limits.
-- Assumes nothing.
use Rattle.std.proofs.Common.{sym, ◌∙◌}
use Rattle.filtering.proofs.Accepted.{accepted_job}
use Rattle.stripfilter.proofs.input.header.Goals as goal

pub returns-in-Ok-judge : goal.returns-in-Ok-judge
returns-in-Ok-judge g c = accepted_job _ _ _ _ (sym c.judge.ensures ∙ c.in-Ok-judge.is)
