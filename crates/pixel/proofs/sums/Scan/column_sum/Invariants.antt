-- The cut samples of a column are added up; the invariant is the sum of those passed and its bound.
use Rattle.std.proofs.Math.IntN.{sub_ℕ}
use Rattle.std.proofs.Common.{◌≡◌, List, ℕ, ◌+◌, ◌*◌, ◌/◌, ◌^◌, ◌≤◌}
use Rattle.rule.specs.Sums.{sample_at}
use Rattle.arith.specs.Sum.{sum}
use Rattle.pixel.proofs.sums.Scan.column_sum.Given as goal

-- term i of the sum
abbrev pub cell : List ℕ → (width top col q1 : ℕ) → ℕ → ℕ
cell samples width top col q1 i = sample_at width samples (sub_ℕ (top + i) 128) (sub_ℕ col 128) / 2 ^ q1

abbrev pub invariant-loop-i : goal.invariant-loop-i
invariant-loop-i l = record {
  so_far : l.s ≡ sum l.i (cell l.self.samples.now l.self.width l.top l.col l.q1);
  small : l.s ≤ l.i * 65535;
}
