use Rattle.std.proofs.Common.{ℕ, ◌≤◌, ◌<◌}
use Rattle.layout.specs.declared.Table.{Table}
use Rattle.layout.specs.Contents.{rect}
use Rattle.grid.specs.Lines.{SameSide}
use Rattle.grid.proofs.sums.band_end.Given as goal

-- no row edge of rectangle j lies between the lines from a to end - 1
abbrev pub Unbroken : Table → (a end j : ℕ) → Type 0
Unbroken t a end j = SameSide (rect t j).leadrow a end × SameSide (rect t j).trailrow a end

-- nor one of the rectangles passed
abbrev pub invariant-loop-d : goal.invariant-loop-d
invariant-loop-d l = record {
  some : l.a < l.end;
  most : l.end ≤ 31;
  unbroken : (j : ℕ) → j < l.d-index → Unbroken l.fn.t l.a l.end j;
}
