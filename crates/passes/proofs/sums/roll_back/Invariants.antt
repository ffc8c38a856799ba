-- Assumes nothing.
use Rattle.std.proofs.Common.{◌≡◌, ℕ, ◌<◌, ◌≤◌, get_or}
use Rattle.passes.specs.Passes.{stepped_at}
use Rattle.passes.proofs.sums.roll_back.Given as goal

abbrev pub invariant-loop-c : goal.invariant-loop-c
invariant-loop-c l = record {
  done : (k : ℕ) → k < l.c → get_or l.sums k 0 ≡ stepped_at l.initial.sums l.on l.off l.q1 k;
  rest : (k : ℕ) → l.c ≤ k → get_or l.sums k 0 ≡ get_or l.initial.sums k 0;
}
