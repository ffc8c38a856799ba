use Rattle.std.proofs.Common.{rules}
use Rattle.arith.proofs.Std.{filled}
use Rattle.rank.proofs.ranking.clear_first.Goals as goal

pub returns : goal.returns
returns c = let e = filled c.args.n 0 in search (rules, e)
