-- A table within the limits has at most 16 rectangles.
use Rattle.std.proofs.Common.{arith, sym, ◌∙◌}
use Rattle.limits.proofs.Asked.{asked_yes}
use Rattle.limits.proofs.Granted.{granted}
use Rattle.table.proofs.writing.write.Goals as goal

pub overflow_mul-length : goal.overflow_mul-length
overflow_mul-length c =
    let g = (granted _ (sym c.accepted.ensures ∙ asked_yes _ _ _ (sym c.unless.ensures ∙ c.in_ok-unless.was))).few in omega arith

pub overflow_add-length : goal.overflow_add-length
overflow_add-length c =
    let g = (granted _ (sym c.accepted.ensures ∙ asked_yes _ _ _ (sym c.unless.ensures ∙ c.in_ok-unless.was))).few in omega arith

pub put-requires-clause-count_bound : goal.put-requires-clause-count_bound
put-requires-clause-count_bound c =
    let g = (granted _ (sym c.accepted.ensures ∙ asked_yes _ _ _ (sym c.unless.ensures ∙ c.in_ok-unless.was))).few in omega arith
