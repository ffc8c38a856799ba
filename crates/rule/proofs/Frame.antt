-- Places in a frame with a margin, in which they stay natural, are the places of the signed rule.
-- Assumes nothing.
use Rattle.std.proofs.Common.{ℕ, suc, ◌+◌, arith, ◌≡◌, ℤ, pos}
use Rattle.std.proofs.Math.IntN.{sub_ℕ}
use Rattle.arith.specs.Diff.{Diff}
use Rattle.arith.proofs.Ints.{diff_pos, diff_sub, diff_add, diff_eq}
use Rattle.rule.specs.Sums.{covered}

-- place r + 1 + b + i of a frame with a margin of m, where the trail is b - m
pub covered_frame : {trail : ℤ} {b m : ℕ} (r i : ℕ) → Diff trail b m → covered (pos r) trail i ≡ sub_ℕ (r + 1 + b + i) m
unfolding covered
covered_frame {b = b} {m = m} r i d =
    diff_eq (diff_add (diff_add (diff_pos r) d) (diff_pos (suc i))) (diff_sub (r + 1 + b + i) m) (omega arith)
