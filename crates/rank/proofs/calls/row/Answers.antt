use Rattle.std.proofs.Common.{ap, ◌∙◌, ◌≡◌, sym}
use Rattle.layout.specs.Answers.{answer_said, left}
use Rattle.rank.specs.Calls.{world, row_of}
use Rattle.rank.specs.Filters.{scan_at}
use Rattle.rank.proofs.Faces.{faced, row_is, row_loaned}
use Rattle.rank.proofs.calls.row.Goals as goal

pub returns : goal.returns
returns c =
    let s = c.args.s in
    let after = c.row-answer.new in
    let e : left (answer_said c.row-answer.result) (world (scan_at s.window s.b s.rank after.state) after.filter.samples.now after.filter.counts.now after.filter.windows.now) after.out
    ≡ row_of (world (scan_at s.window s.b s.rank c.state-state.result) c.args.samples.now c.args.counts.now c.args.windows.now) c.args.row.now c.args.out.now
    = ap (faced s.window s.b s.rank) c.row-answer.ensures ∙ row_is c.state-state.result _ c.args.row.now c.args.out.now in
    let n = row_loaned c.state-state.result _ c.args.row.now c.args.out.now c.row-answer.ensures in
    rw (c.at.ensures, c.samples-1.given.1.1 (sym n.0), c.counts-1.given.1.1 (sym n.1), c.windows-1.given.1.1 (sym n.2)) (rw c.state-state.ensures at e)
