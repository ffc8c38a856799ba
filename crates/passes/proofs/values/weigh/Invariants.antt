-- Assumes nothing.
use Rattle.std.proofs.Common.{◌≡◌, ℕ, ◌<◌, ◌≤◌, get_or}
use Rattle.passes.specs.Passes.{weighed}
use Rattle.passes.proofs.values.weigh.Given as goal

abbrev pub invariant-loop-c : goal.invariant-loop-c
invariant-loop-c l = record {
  done : (k : ℕ) → k < l.c → get_or l.acc k 0 ≡ weighed (get_or l.initial.acc k 0) l.m (get_or l.lead k 0) (get_or l.trail k 0) l.q;
  rest : (k : ℕ) → l.c ≤ k → get_or l.acc k 0 ≡ get_or l.initial.acc k 0;
}
