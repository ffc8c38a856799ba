-- A weight fits 16 bits by its type.
use Rattle.std.proofs.Common.{rules}
use Rattle.limits.proofs.Values.{weight_fits}
use Rattle.limits.proofs.rects.rect_good.Goals as goal

pub returns-then-edges_good-clause-weight_value : goal.returns-then-edges_good-clause-weight_value
returns-then-edges_good-clause-weight_value c = weight_fits c.args.r.weight (search rules)

pub returns-else-edges_good-clause-weight_value : goal.returns-else-edges_good-clause-weight_value
returns-else-edges_good-clause-weight_value c = weight_fits c.args.r.weight (search rules)
