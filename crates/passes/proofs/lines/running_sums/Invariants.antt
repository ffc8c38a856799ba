-- Assumes nothing.
use Rattle.std.proofs.Common.{◌≡◌, ℕ, ◌<◌, ◌≤◌, ◌%◌, get_or}
use Rattle.passes.specs.Passes.{prefix, running}
use Rattle.passes.proofs.lines.running_sums.Given as goal

abbrev pub invariant-loop-place : goal.invariant-loop-place
invariant-loop-place l = record {
  done : (k : ℕ) → k < l.place-index → get_or l.line k 0 ≡ running l.initial.line k;
  rest : (k : ℕ) → l.place-index ≤ k → get_or l.line k 0 ≡ get_or l.initial.line k 0;
  sum : l.sum ≡ prefix l.initial.line l.place-index % 4294967296;
}
