use Rattle.std.proofs.Common.{◌≡◌, ◌*◌, ◌≤◌}
use Rattle.arith.specs.Part.{pos_part, neg_part}
use Rattle.layout.specs.Contents.{rect}
use Rattle.grid.specs.Lines.{weight_most}
use Rattle.grid.proofs.Entries.{laid}
use Rattle.grid.proofs.weights.entry.Given as goal

-- the shares of the rectangles passed
abbrev pub invariant-loop-d : goal.invariant-loop-d
invariant-loop-d l = record {
  high : l.high ≡ laid pos_part l.d-index (rect l.fn.t) l.a l.b;
  low : l.low ≡ laid neg_part l.d-index (rect l.fn.t) l.a l.b;
  high_small : l.high ≤ l.d-index * weight_most;
  low_small : l.low ≤ l.d-index * weight_most;
}
