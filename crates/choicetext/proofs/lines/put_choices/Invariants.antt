-- `choicetext::lines::put_choices`: choice after choice is put.
-- Assumes nothing.
use Rattle.std.proofs.Common.{◌+◌, ◌*◌, ◌≤◌}
use Rattle.text.specs.Text.{Put}
use Rattle.choicetext.specs.Lines.{choice_lines}
use Rattle.choicetext.proofs.lines.put_choices.Given as goal

abbrev pub invariant-loop-i : goal.invariant-loop-i
invariant-loop-i l = record {
  put : Put l.initial.out l.at (choice_lines l.t l.width l.most l.i) l.out l.a;
  upper_bound : l.a ≤ l.at + 169 * l.i;
}
