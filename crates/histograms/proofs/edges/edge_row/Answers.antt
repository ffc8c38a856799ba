-- `histograms::edge_row` lends zeros where no row is reached, and the ring's row where one is.
-- Assumes nothing.
use Rattle.std.proofs.Common.{refl, length}
use Rattle.histograms.proofs.Zero.{zeros_first}
use Rattle.histograms.proofs.edges.edge_row.Goals as goal

pub returns-in-None : goal.returns-in-None
returns-in-None c = rw c.in-None.is (zeros_first c.requires.dark (length c.args.row.now) c.requires.width_most (λ k. refl))
