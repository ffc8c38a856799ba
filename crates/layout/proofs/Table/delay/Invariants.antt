use Rattle.std.proofs.Common.{◌≡◌, ◌≤◌}
use Rattle.arith.specs.Part.{pos_part}
use Rattle.arith.specs.Largest.{largest}
use Rattle.layout.specs.Contents.{rect}
use Rattle.layout.proofs.Table.delay.Given as goal

-- the largest lead row so far, which fits 7 bits
abbrev pub invariant-loop-r : goal.invariant-loop-r
invariant-loop-r l = record {
  so_far : l.d ≡ largest l.r-index (λ k. pos_part (rect l.fn.self k).leadrow);
  small : l.d ≤ 127;
}
