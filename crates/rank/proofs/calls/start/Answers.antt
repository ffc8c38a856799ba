use Rattle.std.proofs.Common.{ap, ◌∙◌, ◌≡◌, sym, []}
use Rattle.layout.specs.Answers.{said, left}
use Rattle.rank.specs.Calls.{world, start_of}
use Rattle.rank.specs.Filters.{scan_at}
use Rattle.rank.proofs.Faces.{faced, start_is, start_loaned}
use Rattle.rank.proofs.calls.start.Goals as goal

pub returns : goal.returns
returns c =
    let a = c.args in
    let after = c.start-verdict.new in
    let e : left (said c.start-verdict.result) (world (scan_at a.window a.b a.rank after.state) after.filter.samples.now after.filter.counts.now after.filter.windows.now) []
    ≡ start_of a.b a.window a.rank a.width a.samples.now a.counts.now a.windows.now
    = ap (faced a.window a.b a.rank) c.start-verdict.ensures ∙ start_is _ a.width in
    let n = start_loaned _ a.width c.start-verdict.ensures in
    rw (c.at.ensures, c.samples-1.given.1.1 (sym n.0), c.counts-1.given.1.1 (sym n.1), c.windows-1.given.1.1 (sym n.2)) e
