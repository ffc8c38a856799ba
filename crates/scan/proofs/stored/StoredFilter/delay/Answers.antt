use Rattle.std.proofs.Common.{rules}
use Rattle.arrival.proofs.Delays.{delay_most}
use Rattle.scan.proofs.Filters.{accepts}
use Rattle.scan.proofs.stored.StoredFilter.delay.Goals as goal

pub returns-clause-upper_bound : goal.returns-clause-upper_bound
returns-clause-upper_bound c = let d = delay_most c.args.self.now.table (accepts c.args.self.now c.requires) in search (rules, d)
