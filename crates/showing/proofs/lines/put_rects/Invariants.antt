-- Rectangle after rectangle is put.
-- Assumes nothing.
use Rattle.std.proofs.Common.{◌+◌, ◌*◌, ◌≤◌}
use Rattle.arith.specs.Tab.{tab}
use Rattle.layout.specs.Contents.{rect}
use Rattle.text.specs.Text.{Put}
use Rattle.showing.specs.Showing.{rect_lines}
use Rattle.showing.proofs.lines.put_rects.Given as goal

abbrev pub invariant-loop-k : goal.invariant-loop-k
invariant-loop-k l = Put l.initial.out l.at (rect_lines (tab l.k (rect l.t))) l.out l.a × (l.a ≤ l.at + 138 * l.k)
