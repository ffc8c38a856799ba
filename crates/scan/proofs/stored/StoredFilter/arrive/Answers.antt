use Rattle.std.proofs.Common.{ap, ◌∙◌}
use Rattle.scan.proofs.Filters.{row_fits, stored_leaves, arrived}
use Rattle.scan.proofs.stored.StoredFilter.arrive.Goals as goal

pub arrive-requires : goal.arrive-requires
arrive-requires c = row_fits c.requires

pub returns : goal.returns
returns c = ap (stored_leaves c.args.self.now) c.arrive.ensures ∙ arrived c.args.self.now c.args.arrival c.args.row.now c.args.out.now
