use Rattle.std.proofs.Common.{◌≡◌, ◌≤◌, ◌+◌, ◌-◌, ◌*◌, suc, get_or}
use Rattle.arith.specs.Sum.{sum}
use Rattle.grid.specs.Lines.{delta_bias, entry_most, up_to}
use Rattle.grid.proofs.lines.entry_sums.Given as goal

-- the entry, and the two sums so far
abbrev pub invariant-loop-delta : goal.invariant-loop-delta
invariant-loop-delta l = record {
  entry : l.entry + l.delta-index * delta_bias ≡ sum l.delta-index (λ j. get_or l.fn.deltas j 0) + delta_bias;
  high : l.high ≡ sum l.delta-index (λ j. up_to l.fn.deltas j - suc j * delta_bias);
  low : l.low ≡ sum l.delta-index (λ j. suc j * delta_bias - up_to l.fn.deltas j);
  high_small : l.high ≤ l.delta-index * entry_most;
  low_small : l.low ≤ l.delta-index * entry_most;
}
