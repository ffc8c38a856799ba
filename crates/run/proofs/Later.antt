-- What is due does not change with the rows that come later.
-- Assumes nothing.
use Prim.Native.Nat.{ℕ, ◌+◌, ◌<◌}
use native.Mathlib.Omega.{arith}
use mathlib.Core.Path.{◌≡◌}
use mathlib.Core.List.{List, ◌++◌}
use lib.Dec.{T}
use lib.IntN.{ℤ, pos, negsuc, ◌+ℤ◌}
use lib.Signed.{◌≤ℤ◌}
use lib.ListN.{length}
use Rattle.arith.proofs.Ints.{diff_pos, diff_add, le_diff}
use Rattle.layout.specs.declared.Table.{Table}
use Rattle.layout.specs.Measure.{delay_of}
use Rattle.rule.specs.Pixels.{pixel_of}
use Rattle.rule.proofs.Depends.{pixel_depends}
use Rattle.model.specs.Rows.{scanned, good_rows}
use Rattle.model.specs.Wholes.{Settled}
use Rattle.model.proofs.Rows.{more_agrees, more_above}
use Rattle.run.specs.Sequences.{filter_of}

pub pixel_later : (l b : ℕ) (rows later : List (List ℕ)) → T (good_rows l b rows) → (t : Table) (r : ℕ) (c : ℤ) → r + delay_of t < length rows
    → pixel_of t (scanned l rows) (pos r) c ≡ pixel_of t (scanned l (rows ++ later)) (pos r) c
pixel_later l b rows later h t r c p = pixel_depends t (scanned l rows) (scanned l (rows ++ later)) (pos r) c agree
  where
    agree : (i j : ℤ) → i ≤ℤ (pos r +ℤ pos (delay_of t)) → scanned l rows i j ≡ scanned l (rows ++ later) i j
    agree (negsuc i) j q = more_above l b rows later h i j
    agree (pos e) j q =
        more_agrees l b rows later h e j (let m = le_diff (diff_pos e) (diff_add (diff_pos r) (diff_pos (delay_of t))) q in omega arith)

-- so the filter is settled
pub settled : (t : Table) (l : ℕ) → Settled (filter_of t l)
settled t l = record { later = λ rows more h r c p. pixel_later l t.b rows more h t r (pos c) p }
