-- What is due does not change with the rows that come later.
-- Assumes nothing.
use Prim.Native.Nat.{ℕ, ◌+◌, ◌<◌}
use native.Mathlib.Nat.{le_of_eq}
use native.Mathlib.Omega.{arith}
use mathlib.Core.Path.{◌≡◌, refl}
use mathlib.Core.List.{List, ◌++◌}
use lib.Dec.{T}
use lib.IntN.{ℤ, pos, negsuc, ◌+ℤ◌}
use lib.Signed.{◌≤ℤ◌}
use lib.ListN.{length, length-append}
use borrow.Author.Tests.{lt-ltb}
use Rattle.arith.proofs.Ints.{diff_pos, diff_add, le_diff}
use Rattle.rule.proofs.Depends.{covered_most}
use Rattle.model.specs.Rows.{good_rows}
use Rattle.model.specs.Wholes.{Settled}
use Rattle.model.proofs.Rows.{more_agrees, more_above}
use Rattle.histograms.specs.Arrivals.{delay_by}
use Rattle.rank.specs.Calls.{rect_of}
use Rattle.rankrun.specs.Rule.{inside}
use Rattle.rankrun.specs.Holds.{Setting}
use Rattle.rankrun.specs.Sequences.{strip_of, filter_of}
use Rattle.rankrun.proofs.Shades.{AlikeAt, shade_alike}

-- rows that are taken, and more after them: alike in the rows taken, and above them
module _ (l b : ℕ) (rows more : List (List ℕ)) (h : T (good_rows l b rows)) where
  pub taken_alike : (e : ℕ) → e < length rows → AlikeAt (strip_of l rows) (strip_of l (rows ++ more)) (pos e)
  unfolding inside
  taken_alike e p = record { held = held; same = λ j. more_agrees l b rows more h e j p }
    where
      held : (j : ℤ) → inside (strip_of l rows) (pos e) j ≡ inside (strip_of l (rows ++ more)) (pos e) j
      held (negsuc j) = refl
      held (pos j) = let n = length-append rows more in rw (lt-ltb e (length rows) p, lt-ltb e (length (rows ++ more)) (omega arith)) refl

  pub above_alike : (i : ℕ) → AlikeAt (strip_of l rows) (strip_of l (rows ++ more)) (negsuc i)
  unfolding inside
  above_alike i = record { held = λ j. refl; same = λ j. more_above l b rows more h i j }

-- the ranked window is settled
pub settled : (q : Setting) → Settled (filter_of q)
settled q = record { later = λ rows more h r c p. shade_alike _ _ (rect_of q.window) (pos r) (λ i k. at rows more h r p _ (covered_most (rect_of q.window) (pos r) i late k (le_of_eq refl))) q.b q.rank (pos c) }
  where
    late : ℕ
    late = delay_by (rect_of q.window)

    at : (rows more : List (List ℕ)) → T (good_rows q.width q.b rows) → (r : ℕ) → r + late < length rows
        → (z : ℤ) → z ≤ℤ (pos r +ℤ pos late) → AlikeAt (strip_of q.width rows) (strip_of q.width (rows ++ more)) z
    at rows more h r p (negsuc i) k = above_alike q.width q.b rows more h i
    at rows more h r p (pos e) k =
        taken_alike q.width q.b rows more h e (let m = le_diff (diff_pos e) (diff_add (diff_pos r) (diff_pos late)) k in omega arith)
