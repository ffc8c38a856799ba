use Rattle.std.proofs.Common.{rules}
use Rattle.rank.specs.Calls.{rect_of}
use Rattle.histograms.proofs.Counts.{delay_most}
use Rattle.rank.proofs.Filters.{accepts}
use Rattle.rank.proofs.ranking.RankingFilter.delay.Goals as goal

pub returns-clause-upper_bound : goal.returns-clause-upper_bound
returns-clause-upper_bound c = let d = delay_most (rect_of c.args.self.now.window) (accepts c.args.self.now c.requires).rect in search (rules, d)
