-- `levels::slide` is a pass over the levels of the window.
-- Assumes nothing.
use Rattle.std.proofs.Common.{◌≡◌, ℕ, ◌<◌, ◌≤◌, get_or}
use Rattle.levels.specs.Levels.{count_of, slid_count}
use Rattle.levels.proofs.sliding.slide.Given as goal

abbrev pub invariant-loop-v : goal.invariant-loop-v
invariant-loop-v l = record {
  done : (k : ℕ) → k < l.v → get_or l.window k 0 ≡ slid_count (count_of l.initial.window) (count_of l.off) (count_of l.on) k;
  rest : (k : ℕ) → l.v ≤ k → get_or l.window k 0 ≡ get_or l.initial.window k 0;
}
