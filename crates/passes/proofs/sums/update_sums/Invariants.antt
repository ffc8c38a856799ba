-- Assumes nothing.
use Rattle.std.proofs.Common.{◌≡◌, ℕ, ◌<◌, ◌≤◌, T, ltb, get_or}
use Rattle.arith.specs.All.{all}
use Rattle.passes.specs.Passes.{bound_end, movable_at, stepped_at, new_at}
use Rattle.passes.proofs.sums.update_sums.Given as goal

abbrev pub invariant-loop-c : goal.invariant-loop-c
invariant-loop-c l = record {
  done : (k : ℕ) → k < l.c → get_or l.sums k 0 ≡ stepped_at l.initial.sums l.off l.on l.q1 k;
  rest : (k : ℕ) → l.c ≤ k → get_or l.sums k 0 ≡ get_or l.initial.sums k 0;
  written : T (all l.c (movable_at l.initial.sums l.off l.on l.bound l.q1)) → (k : ℕ) → k < l.c
      → get_or l.line k 0 ≡ new_at l.initial.sums l.off l.on l.q1 l.q2 k;
  beyond : (k : ℕ) → l.c ≤ k → get_or l.line k 0 ≡ get_or l.initial.line k 0;
  asked : ltb l.past bound_end ≡ all l.c (movable_at l.initial.sums l.off l.on l.bound l.q1);
}
