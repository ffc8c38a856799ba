use Rattle.std.proofs.Common.{ap, ◌∙◌, ◌≡◌, sym}
use Rattle.layout.specs.Answers.{closing_said, left}
use Rattle.scan.specs.Calls.{world, step_of}
use Rattle.scan.specs.Filters.{scan_at}
use Rattle.scan.proofs.Faces.{faced, step_is, step_loaned}
use Rattle.scan.proofs.calls.step.Goals as goal

pub returns : goal.returns
returns c =
    let e : left (closing_said c.step-answer.result) (world (scan_at c.args.s.table c.step-answer.new.state) c.step-answer.new.filter.samples.now c.step-answer.new.filter.sums.now) c.step-answer.new.out
    ≡ step_of (world (scan_at c.args.s.table c.state-state.result) c.args.samples.now c.args.sums.now) c.args.out.now
    = ap (faced c.args.s.table) c.step-answer.ensures ∙ step_is c.state-state.result _ c.args.out.now in
    let n = step_loaned c.state-state.result _ c.args.out.now c.step-answer.ensures in
    rw (c.at.ensures, c.samples-1.given.1.1 (sym n.0), c.sums-1.given.1.1 (sym n.1)) (rw c.state-state.ensures at e)
