-- Assumes nothing.
use Rattle.std.proofs.Common.{◌≡◌, ℕ, ◌<◌, pos, get_or}
use Rattle.passes.specs.Passes.{rounded_word}
use Rattle.passes.proofs.pixels.write_narrow.Given as goal

abbrev pub invariant-loop-c : goal.invariant-loop-c
invariant-loop-c l = record {
  done : (k : ℕ) → k < l.c → get_or l.out k (pos 0) ≡ rounded_word (get_or l.acc k 0) l.shift;
}
