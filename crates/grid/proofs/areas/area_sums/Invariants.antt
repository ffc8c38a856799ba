use Rattle.std.proofs.Common.{◌≡◌, ◌*◌, ◌≤◌}
use Rattle.arith.specs.Part.{pos_part, neg_part}
use Rattle.layout.specs.Contents.{rect}
use Rattle.grid.specs.Grid.{area_sum}
use Rattle.grid.proofs.areas.area_sums.Given as goal

-- the shares of the rectangles passed
abbrev pub invariant-loop-r : goal.invariant-loop-r
invariant-loop-r l = record {
  high : l.high ≡ area_sum pos_part l.r-index (rect l.fn.t);
  low : l.low ≡ area_sum neg_part l.r-index (rect l.fn.t);
  high_small : l.high ≤ l.r-index * 2147483648;
  low_small : l.low ≤ l.r-index * 2147483648;
}
