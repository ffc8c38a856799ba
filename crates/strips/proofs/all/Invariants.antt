-- Each line taken leaves less of the text.
use Rattle.std.proofs.Common.{length}
use Rattle.strips.proofs.all.Given as goal

abbrev pub decreases-loop-scan : goal.decreases-loop-scan
decreases-loop-scan g l = length l.rest
