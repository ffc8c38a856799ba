-- What is left of the gap ends where the whole gap does.
use Rattle.std.proofs.Common.{◌≡◌, ◌+◌, ◌≤◌, max, false, length, drop}
use Rattle.pgm.specs.Grammar.{gap}
use Rattle.pgm.proofs.lexing.gap.Given as goal

abbrev pub invariant-loop-i : goal.invariant-loop-i
invariant-loop-i l = record {
  within : l.i ≤ max l.at (length l.bytes);
  same_end : l.i + gap l.comment (drop l.i l.bytes) ≡ l.at + gap false (drop l.at l.bytes);
}
