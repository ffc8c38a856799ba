use Rattle.rank.proofs.Faces.{close_is}
use Rattle.rank.proofs.calls.close.Goals as goal

pub returns : goal.returns
returns c = λ samples counts windows. let e = close_is c.state-state.result _ samples counts windows c.close-verdict.ensures in rw (c.at.ensures) (rw c.state-state.ensures at e)
