-- What the digits so far spell, carried on over the rest, is the same number.
use Rattle.std.proofs.Common.{◌≡◌, ◌+◌, ◌≤◌, min, max, length, drop}
use Rattle.pgm.specs.Grammar.{number, digits}
use Rattle.pgm.proofs.lexing.number.Given as goal

abbrev pub invariant-loop-i : goal.invariant-loop-i
invariant-loop-i l = record {
  within : l.i ≤ max l.at (length l.bytes);
  held : l.value ≤ 65536;
  same_value : min 65536 (number l.value (drop l.i l.bytes)) ≡ min 65536 (number 0 (drop l.at l.bytes));
  same_end : l.i + digits (drop l.i l.bytes) ≡ l.at + digits (drop l.at l.bytes);
}
