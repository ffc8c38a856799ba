-- `grid::grid_sums`: the sums of a band's first line are taken once for each of its lines; the invariant is the sums of the lines passed.
-- Assumes nothing.
use Rattle.std.proofs.Common.{◌-◌, ◌*◌, ◌≤◌, ◌≡◌}
use Rattle.arith.specs.Sum.{sum}
use Rattle.arith.specs.Part.{pos_part, neg_part}
use Rattle.layout.specs.Contents.{rect}
use Rattle.grid.specs.Lines.{line_most, line_sum}
use Rattle.grid.proofs.sums.grid_sums.Given as goal

abbrev pub invariant-loop-a : goal.invariant-loop-a
invariant-loop-a l = (l.a ≤ 31) × (l.high ≡ sum l.a (line_sum pos_part l.fn.t.count (rect l.fn.t))) × (l.low ≡ sum l.a (line_sum neg_part l.fn.t.count (rect l.fn.t)))
    × (l.high ≤ l.a * line_most) × (l.low ≤ l.a * line_most)

abbrev pub decreases-loop-a : goal.decreases-loop-a
decreases-loop-a l = 31 - l.a
