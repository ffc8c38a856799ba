use Rattle.std.proofs.Common.{ap, ◌∙◌, ◌≡◌, sym}
use Rattle.layout.specs.Answers.{closing_said, left}
use Rattle.rank.specs.Calls.{world, step_of}
use Rattle.rank.specs.Filters.{scan_at}
use Rattle.rank.proofs.Faces.{faced, step_is, step_loaned}
use Rattle.rank.proofs.calls.step.Goals as goal

pub returns : goal.returns
returns c =
    let s = c.args.s in
    let after = c.step-answer.new in
    let e : left (closing_said c.step-answer.result) (world (scan_at s.window s.b s.rank after.state) after.filter.samples.now after.filter.counts.now after.filter.windows.now) after.out
    ≡ step_of (world (scan_at s.window s.b s.rank c.state-state.result) c.args.samples.now c.args.counts.now c.args.windows.now) c.args.out.now
    = ap (faced s.window s.b s.rank) c.step-answer.ensures ∙ step_is c.state-state.result _ c.args.out.now in
    let n = step_loaned c.state-state.result _ c.args.out.now c.step-answer.ensures in
    rw (c.at.ensures, c.samples-1.given.1.1 (sym n.0), c.counts-1.given.1.1 (sym n.1), c.windows-1.given.1.1 (sym n.2)) (rw c.state-state.ensures at e)
