-- What is left has the same lines of the kind.
-- Assumes nothing.
use Rattle.std.proofs.Common.{◌≡◌, length}
use Rattle.words.specs.Words.{lines_of}
use Rattle.making.specs.Steps.{lines_left}
use Rattle.making.proofs.lines.OfKindIterator.next.Given as goal

abbrev pub invariant-loop-line : goal.invariant-loop-line
invariant-loop-line l = lines_left l.self ≡ lines_left l.fn.self

abbrev pub decreases-loop-line : goal.decreases-loop-line
decreases-loop-line l = length (lines_of l.self.lines.rest.0.now)
