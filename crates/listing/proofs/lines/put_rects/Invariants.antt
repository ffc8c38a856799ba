-- Rectangle after rectangle is put.
-- Assumes nothing.
use Rattle.std.proofs.Common.{◌+◌, ◌*◌, ◌≤◌}
use Rattle.text.specs.Text.{Put}
use Rattle.listing.specs.Listing.{rect_lines}
use Rattle.listing.proofs.lines.put_rects.Given as goal

abbrev pub invariant-loop-k : goal.invariant-loop-k
invariant-loop-k l = record {
  put : Put l.initial.out l.at (rect_lines l.t l.k) l.out l.a;
  upper_bound : l.a ≤ l.at + 148 * l.k;
}
