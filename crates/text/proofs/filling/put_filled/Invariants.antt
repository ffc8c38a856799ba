-- Piece after piece is put: what stands is the text's first bytes, filled in.
-- Assumes nothing.
use Prim.Native.Nat.{◌-◌, ◌*◌, ◌≤◌}
use mathlib.Core.Path.{◌≡◌}
use mathlib.Core.List.{[], ◌∷◌}
use lib.ListN.{length, take}
use Rattle.text.specs.Text.{Put}
use Rattle.text.specs.Ascii.{filled}
use Rattle.text.proofs.Pieces.{up_to}
use Rattle.text.proofs.filling.put_filled.Given as goal

abbrev pub invariant-loop-j : goal.invariant-loop-j
invariant-loop-j l = (l.j ≤ length l.text) × (l.at ≤ 20 * l.j) × (l.k ≤ l.j) × (l.k ≡ up_to (take l.j l.text) 0) × Put l.initial.out 0 (filled (take l.j l.text) (l.x ∷ l.y ∷ l.z ∷ []) 0) l.out l.at
    × (length l.out ≡ length l.initial.out)

abbrev pub decreases-loop-j : goal.decreases-loop-j
decreases-loop-j l = length l.text - l.j
