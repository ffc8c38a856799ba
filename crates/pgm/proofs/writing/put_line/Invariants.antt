-- The cells of the pixels below the place are put, at most 22 bytes each.
use Rattle.std.proofs.Common.{◌*◌, ◌≤◌, length}
use Rattle.text.specs.Text.{Put}
use Rattle.pgm.specs.Text.{cells}
use Rattle.pgm.proofs.writing.put_line.Given as goal

abbrev pub invariant-loop-k : goal.invariant-loop-k
invariant-loop-k l = record { put : Put l.initial.out 0 (cells (length l.pixels) l.pixels l.k) l.out l.at; short : l.at ≤ 22 * l.k }
