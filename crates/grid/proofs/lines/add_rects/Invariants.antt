use Rattle.layout.specs.Contents.{rect}
use Rattle.grid.specs.Lines.{LineDeltas}
use Rattle.grid.proofs.lines.add_rects.Given as goal

-- the line of the rectangles passed
abbrev pub invariant-loop-d : goal.invariant-loop-d
invariant-loop-d l = LineDeltas l.d-index (rect l.fn.t) l.a l.deltas
