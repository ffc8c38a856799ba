use Rattle.std.proofs.Common.{ap, ◌∙◌, ◌≡◌, sym, []}
use Rattle.layout.specs.Answers.{said, left}
use Rattle.scan.specs.Calls.{world, start_of}
use Rattle.scan.specs.Filters.{scan_at}
use Rattle.scan.proofs.Faces.{faced, start_is, start_loaned}
use Rattle.scan.proofs.calls.start.Goals as goal

pub returns : goal.returns
returns c =
    let e : left (said c.start-verdict.result) (world (scan_at c.args.t c.start-verdict.new.state) c.start-verdict.new.filter.samples.now c.start-verdict.new.filter.sums.now) []
    ≡ start_of c.args.t c.args.width c.args.samples.now c.args.sums.now
    = ap (faced c.args.t) c.start-verdict.ensures ∙ start_is _ c.args.width in
    let n = start_loaned _ c.args.width c.start-verdict.ensures in
    rw (c.at.ensures, c.samples-1.given.1.1 (sym n.0), c.sums-1.given.1.1 (sym n.1)) e
