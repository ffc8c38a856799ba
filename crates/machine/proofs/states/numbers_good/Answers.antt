use Rattle.std.proofs.Common.{◌∙◌}
use Rattle.machine.proofs.Goods.{said_good}
use Rattle.machine.proofs.states.numbers_good.Goals as goal

pub returns : goal.returns
returns g c = c.is_ok.ensures.value ∙ said_good g.F.Filter.rules c.args.filter.now c.ask.result c.ask.ensures
