use Rattle.std.proofs.Common.{rules, length}
use Rattle.arith.proofs.Firsts.{first_most, first_below, first_beyond}
use Rattle.arith.proofs.Bools.{true_of}
use Rattle.rule.specs.Questions.{sample_good}
use Rattle.machine.proofs.rows.ask_row.Goals as goal

pub overflow_cast-place : goal.overflow_cast-place
overflow_cast-place g c =
    let e = first_most (length c.args.row.now) (sample_good (g.F.Filter.rules.top c.args.filter.now) c.args.row.now) in
    search (rules, e)

pub returns-clause-asked : goal.returns-clause-asked
returns-clause-asked g c =
    let e = first_below (length c.args.row.now) (sample_good (g.F.Filter.rules.top c.args.filter.now) c.args.row.now) in
    let f = first_beyond (length c.args.row.now) (sample_good (g.F.Filter.rules.top c.args.filter.now) c.args.row.now) in
    search (rules, e, f, true_of)
