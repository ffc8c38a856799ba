use Rattle.scan.proofs.Faces.{closed_as}
use Rattle.scan.proofs.calls.close.Goals as goal

pub returns : goal.returns
returns c = λ samples sums. let e = closed_as c.state-state.result _ samples sums c.close-verdict.ensures in rw (c.at.ensures) (rw c.state-state.ensures at e)
