-- There are no more lines than bytes.
-- Assumes nothing.
use Rattle.std.proofs.Common.{arith}
use Rattle.making.proofs.Findings.{lines_few}
use Rattle.making.proofs.lines.Placed.of.Goals as goal

pub invariant_of-result : goal.invariant_of-result
invariant_of-result c = record { few = let h = lines_few c.args.text.now in let q = c.requires in omega arith }
