use Rattle.std.proofs.Common.{ap, ◌∙◌}
use Rattle.rank.proofs.Filters.{row_fits, stored_leaves, arrived}
use Rattle.rank.proofs.ranking.RankingFilter.arrive.Goals as goal

pub arrive-requires : goal.arrive-requires
arrive-requires c = rw c.rect.ensures (row_fits c.requires)

pub returns : goal.returns
returns c = ap (stored_leaves c.args.self.now) (rw c.rect.ensures at c.arrive.ensures) ∙ arrived c.args.self.now c.args.arrival c.args.row.now c.args.out.now
