use Rattle.rank.proofs.States.{stores_bounds}
use Rattle.rank.proofs.ranking.RankingFilter.clear.Goals as goal

pub clear_first-requires : goal.clear_first-requires
clear_first-requires c = (stores_bounds _ _ _ _ c.requires.1).0

pub clear_first-requires-2 : goal.clear_first-requires-2
clear_first-requires-2 c = (stores_bounds _ _ _ _ c.requires.1).1

pub clear_first-requires-3 : goal.clear_first-requires-3
clear_first-requires-3 c = (stores_bounds _ _ _ _ c.requires.1).2
