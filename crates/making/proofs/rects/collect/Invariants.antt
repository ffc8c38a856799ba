-- One rectangle's line after the other: what is left, collected from here, comes to the whole.
-- Assumes nothing.
use Rattle.std.proofs.Common.{◌≡◌, length}
use Rattle.making.specs.Steps.{lines_left}
use Rattle.making.proofs.Collecting.{Collected}
use Rattle.making.proofs.rects.collect.Given as goal

abbrev pub invariant-loop-line : goal.invariant-loop-line
invariant-loop-line l = Collected l.text l.t (lines_left l.line-iterator) × (length l.t.rects ≡ 16)
