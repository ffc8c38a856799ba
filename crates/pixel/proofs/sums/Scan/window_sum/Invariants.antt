-- The cut column sums are added up; a place of the frame is a covered place of the rule.
use Rattle.std.proofs.Math.IntN.{sub_ℕ}
use Rattle.std.proofs.Common.{◌≡◌, List, ℕ, ◌+◌, ◌*◌, ◌/◌, ◌^◌, ◌≤◌}
use Rattle.rule.specs.Sums.{sample_at}
use Rattle.arith.specs.Sum.{sum}
use Rattle.pixel.proofs.sums.Scan.window_sum.Given as goal

-- the cut sum of column j of the frame
abbrev pub column : List ℕ → (width top m q1 q2 left : ℕ) → ℕ → ℕ
column samples width top m q1 q2 left j =
    sum m (λ i. sample_at width samples (sub_ℕ (top + i) 128) (sub_ℕ (left + j) 128) / 2 ^ q1) / 2 ^ q2

abbrev pub invariant-loop-j : goal.invariant-loop-j
invariant-loop-j l = record {
  so_far : l.s ≡ sum l.j (column l.self.samples.now l.self.width l.top l.m l.t.q1 l.t.q2 l.left);
  small : l.s ≤ l.j * 16711425;
}
