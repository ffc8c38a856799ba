-- `grid::line_sums`: the differences of a line with no rectangle are 0, all rectangles are added, and the parts of the entries are summed.
-- Assumes nothing.
use Rattle.std.proofs.Common.{◌∙◌}
use Rattle.grid.proofs.Deltas.{none_added, high_parts, low_parts}
use Rattle.grid.proofs.lines.line_sums.Goals as goal

pub add_rects-requires-clause-line_deltas : goal.add_rects-requires-clause-line_deltas
add_rects-requires-clause-line_deltas c =
    none_added _ _

pub returns : goal.returns
returns c =
    let l = c.add_rects.ensures.line_deltas in
    let e = c.entry_sums.ensures in
    record { high = e.high_value ∙ high_parts l; low = e.low_value ∙ low_parts l; high_small = e.high_le_line_most.0; low_small = e.high_le_line_most.1 }
