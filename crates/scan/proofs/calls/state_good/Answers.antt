use Rattle.std.proofs.Common.{◌≡◌, ◌∙◌}
use Rattle.scan.specs.Calls.{agrees}
use Rattle.scan.specs.Filters.{scan_at}
use Rattle.scan.proofs.Faces.{agrees_is}
use Rattle.scan.proofs.calls.state_good.Goals as goal

pub returns : goal.returns
returns c =
    let e : c.state_good.result ≡ agrees (scan_at c.args.s.table c.state.result) = c.state_good.ensures.value ∙ agrees_is c.args.s.table c.state.result in
    rw c.state.ensures at e
