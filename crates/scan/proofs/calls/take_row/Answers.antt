use Rattle.std.proofs.Common.{ap, ◌∙◌, ◌≡◌, sym}
use Rattle.layout.specs.Answers.{left}
use Rattle.machine.specs.Calls.{due_is, said_by}
use Rattle.scan.specs.Calls.{world, row_of}
use Rattle.scan.specs.Filters.{scan_at}
use Rattle.scan.proofs.Faces.{faced, row_is, row_loaned}
use Rattle.scan.proofs.calls.take_row.Goals as goal

pub returns : goal.returns
returns c =
    let e : left (said_by due_is c.take_row-row.result) (world (scan_at c.args.s.table c.take_row-row.new.state) c.take_row-row.new.filter.samples.now c.take_row-row.new.filter.sums.now) c.take_row-row.new.out
    ≡ row_of (world (scan_at c.args.s.table c.state-state.result) c.args.samples.now c.args.sums.now) c.args.row.now c.args.out.now
    = ap (faced c.args.s.table) c.take_row-row.ensures ∙ row_is c.state-state.result _ c.args.row.now c.args.out.now in
    let n = row_loaned c.state-state.result _ c.args.row.now c.args.out.now c.take_row-row.ensures in
    rw (c.at.ensures, c.samples-1.given.1.1 (sym n.0), c.sums-1.given.1.1 (sym n.1)) (rw c.state-state.ensures at e)
