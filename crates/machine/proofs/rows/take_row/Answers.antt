use Rattle.std.proofs.Common.{rules, length}
use Rattle.layout.specs.Answers.{refused, left}
use Rattle.rule.specs.Mended.{mended}
use Rattle.machine.specs.Calls.{machine, row_arrival, row_asks, row_in, taken_in}
use Rattle.machine.proofs.Goods.{first_after}
use Rattle.machine.proofs.Lefts.{row_moves}
use Rattle.machine.proofs.rows.take_row.Goals as goal

pub returns-in_err-ask_row : goal.returns-in_err-ask_row
returns-in_err-ask_row g c =
    let r = g.F.Filter.rules in
    let m = machine c.args.state.now c.args.filter.now in
    let row = c.args.row.now in
    let out = c.args.out.now in
    let e = first_after (row_asks r m row (length out)) (r.arrival_asks m.filter (row_arrival m.state) (mended row)) (λ n p. left (refused n p) m out)
    (taken_in r m (row_in m.state) (row_arrival m.state) (mended row) out) c.ask_row.result c.ask_row.ensures.asked in
    search (rules, e)

pub returns-in_err-arrive_mended : goal.returns-in_err-arrive_mended
returns-in_err-arrive_mended g c =
    let e = row_moves g.F.Filter.rules (machine c.args.state.now c.args.filter.now) c.args.row.now c.args.out.now c.ask_row.result c.ask_row.ensures.asked (search rules)
    (rw c.arrival-arrival.ensures at c.arrive_mended.ensures) in
    search (rules, e)

pub returns : goal.returns
returns g c =
    let e = row_moves g.F.Filter.rules (machine c.args.state.now c.args.filter.now) c.args.row.now c.args.out.now c.ask_row.result c.ask_row.ensures.asked (search rules)
    (rw c.arrival-arrival.ensures at c.arrive_mended.ensures) in
    search (rules, e)
