-- Assumes nothing.
use Rattle.std.proofs.Common.{◌≡◌, ℕ, ◌<◌, ◌≤◌, get_or}
use Rattle.passes.specs.Passes.{plus, scaled}
use Rattle.passes.proofs.values.accumulate.Given as goal

abbrev pub invariant-loop-c : goal.invariant-loop-c
invariant-loop-c l = record {
  done : (k : ℕ) → k < l.c → get_or l.acc k 0 ≡ plus (get_or l.initial.acc k 0) l.above l.below (scaled l.lead l.trail l.q3 l.q k);
  rest : (k : ℕ) → l.c ≤ k → get_or l.acc k 0 ≡ get_or l.initial.acc k 0;
}
