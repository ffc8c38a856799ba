use Rattle.std.proofs.Common.{◌≡◌, ◌≤◌, ◌<◌, min, length, drop}
use Rattle.choicetext.specs.Numbers.{all_digits, spells, number_most}
use Rattle.choicetext.proofs.numbers.number.Given as goal

-- what is left to read comes to the same as the whole word
abbrev pub invariant-loop-b : goal.invariant-loop-b
invariant-loop-b l = record {
  some : 0 < length l.fn.w;
  held : l.n ≤ number_most;
  digits : all_digits l.fn.w ≡ all_digits (drop l.b-index l.fn.w);
  value : min number_most (spells 0 l.fn.w) ≡ min number_most (spells l.n (drop l.b-index l.fn.w));
}
