use Rattle.std.proofs.Common.{rules, [], ◌∷◌}
use Rattle.layout.specs.Answers.{refused, accepted, asks}
use Rattle.rule.specs.Questions.{width_good}
use Rattle.rule.proofs.Asked.{width_bounds}
use Rattle.machine.proofs.Goods.{first_after, said_good}
use Rattle.machine.proofs.starts.ask_start.Goals as goal

pub returns-in_err-ask-clause-asked : goal.returns-in_err-ask-clause-asked
returns-in_err-ask-clause-asked g c =
    let r = g.F.Filter.rules in
    let f = c.args.filter.now in
    let e = first_after (r.asks f) (asks 12 (width_good c.args.width) ∷ asks 13 (r.holds f c.args.width) ∷ []) refused (accepted []) c.ask.result c.ask.ensures in
    search (rules, e)

pub returns-in_err-unless-clause-asked : goal.returns-in_err-unless-clause-asked
returns-in_err-unless-clause-asked g c =
    let r = g.F.Filter.rules in
    let f = c.args.filter.now in
    let e = first_after (r.asks f) (asks 12 (width_good c.args.width) ∷ asks 13 (r.holds f c.args.width) ∷ []) refused (accepted []) c.ask.result c.ask.ensures in
    search (rules, e)

pub returns-clause-asked : goal.returns-clause-asked
returns-clause-asked g c =
    let r = g.F.Filter.rules in
    let f = c.args.filter.now in
    let e = first_after (r.asks f) (asks 12 (width_good c.args.width) ∷ asks 13 (r.holds f c.args.width) ∷ []) refused (accepted []) c.ask.result c.ask.ensures in
    search (rules, e)

pub returns-clause-fits : goal.returns-clause-fits
returns-clause-fits g c =
    let good = said_good g.F.Filter.rules c.args.filter.now c.ask.result c.ask.ensures in
    search (rules, good, width_bounds)
