-- One line after the other is passed: the line that is left to find is the same.
-- Assumes nothing.
use Prim.Native.Nat.{◌≤◌}
use mathlib.Core.Path.{◌≡◌}
use lib.ListN.{length, drop}
use Rattle.text.specs.Ascii.{line}
use Rattle.text.proofs.lines.line.Given as goal

abbrev pub invariant-loop-left : goal.invariant-loop-left
invariant-loop-left l = (l.start ≤ length l.text) × (line l.left (drop l.start l.text) ≡ line l.k l.text)

abbrev pub decreases-loop-left : goal.decreases-loop-left
decreases-loop-left l = l.left
