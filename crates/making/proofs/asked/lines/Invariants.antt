-- What is asked of the lines from here on comes to what is asked of all.
-- Assumes nothing.
use Rattle.std.proofs.Common.{◌≡◌}
use Rattle.layout.specs.Answers.{verdict}
use Rattle.words.specs.Words.{lines_of}
use Rattle.making.specs.Making.{lines_ask}
use Rattle.making.proofs.asked.lines.Given as goal

abbrev pub invariant-loop-line : goal.invariant-loop-line
invariant-loop-line l = verdict (lines_ask l.line-iterator.place (lines_of l.line-iterator.rest.0.now)) ≡ verdict (lines_ask 1 (lines_of l.text))
