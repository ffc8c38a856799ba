use Rattle.std.proofs.Common.{rules, []}
use Rattle.layout.specs.Answers.{refused, accepted, left}
use Rattle.machine.specs.Calls.{machine, fresh, start_asks}
use Rattle.machine.proofs.Goods.{first_by}
use Rattle.machine.proofs.starts.start.Goals as goal

pub returns-in_err-ask_start : goal.returns-in_err-ask_start
returns-in_err-ask_start g c =
    let r = g.F.Filter.rules in
    let f = c.args.filter.now in
    let e = first_by (start_asks r f c.args.width) (λ n p. left (refused n p) (machine (fresh 0) f) []) (left (accepted []) (machine (fresh c.args.width) (r.cleared f c.args.width)) []) c.ask_start.result c.ask_start.ensures.asked in
    search (rules, e)

pub returns : goal.returns
returns g c =
    let r = g.F.Filter.rules in
    let f = c.args.filter.now in
    let e = first_by (start_asks r f c.args.width) (λ n p. left (refused n p) (machine (fresh 0) f) []) (left (accepted []) (machine (fresh c.args.width) (r.cleared f c.args.width)) []) c.ask_start.result c.ask_start.ensures.asked in
    search (rules, e)
