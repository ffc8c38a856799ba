-- The rows of an arrival: those that the edges reach, and the one that is due.
-- Assumes nothing.
use Prim.Native.Nat.{ℕ, suc, ◌+◌}
use native.Mathlib.Omega.{arith}
use mathlib.Core.Path.{◌≡◌}
use lib.IntN.{ℤ, pos, sub_ℕ, ◌+ℤ◌, ◌-ℤ◌}
use Rattle.arith.specs.Part.{pos_part}
use Rattle.arith.proofs.Ints.{diff_parts, diff_add, diff_minus, diff_pos, diff_sub, diff_eq}
use Rattle.layout.specs.declared.Rect.{Rect}
use Rattle.layout.specs.Measure.{rows_of}
use Rattle.limits.proofs.Bounds.{extent, RectBounds}
use Rattle.rule.specs.Sums.{covered}

-- the rows that the edges reach at arrival a, from the sum of the arrival before

pub leaving_row : (a delay : ℕ) (trail : ℤ) → covered (sub_ℕ a (suc delay)) trail 0 ≡ (pos a -ℤ pos delay) +ℤ trail
unfolding covered
leaving_row a delay trail =
    let q = diff_parts trail in
    diff_eq (diff_add (diff_add (diff_sub a (suc delay)) q) (diff_pos 1)) (diff_add (diff_minus (diff_pos a) (diff_pos delay)) q) (omega arith)

pub entering_row : (a delay : ℕ) (d : Rect) → RectBounds d
    → covered (sub_ℕ a (suc delay)) d.trailrow (rows_of d) ≡ (pos a -ℤ pos delay) +ℤ d.leadrow
unfolding covered rows_of
entering_row a delay d b =
    let e = extent b.row in
    diff_eq (diff_add (diff_add (diff_sub a (suc delay)) b.row.trail_is) (diff_pos (suc (pos_part (d.leadrow -ℤ d.trailrow)))))
    (diff_add (diff_minus (diff_pos a) (diff_pos delay)) b.row.lead_is) (omega arith)

-- the row that is due at arrival a, and the one before it
pub due_row : (a delay : ℕ) → sub_ℕ a (suc delay) +ℤ pos 1 ≡ sub_ℕ a delay
due_row a delay = diff_eq (diff_add (diff_sub a (suc delay)) (diff_pos 1)) (diff_sub a delay) (omega arith)

pub next_row : (a delay : ℕ) → sub_ℕ (a + 1) (suc delay) ≡ sub_ℕ a delay
next_row a delay = diff_eq (diff_sub (a + 1) (suc delay)) (diff_sub a delay) (omega arith)
