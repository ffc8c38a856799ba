-- What the questions before the first row tell.
-- Assumes nothing.
use Prim.Native.Nat.{ℕ, ◌*◌, ◌/◌, ◌≤◌}
use native.Mathlib.Nat.{le_trans, div-mul-le_self}
use mathlib.Core.Path.{◌≡◌}
use mathlib.Core.List.{[]}
use borrow.Author.Tests.{leb-true}
use Rattle.layout.specs.Answers.{accepted, verdict}
use Rattle.layout.proofs.Questions.{all_yes}
use Rattle.rule.proofs.Asked.{width_bounds}
use Rattle.scan.specs.declared.Scan.{Scan}
use Rattle.scan.proofs.States.{agreed}
use Rattle.burst.specs.Bursts.{burst_asks}

-- a burst whose rows are given
pub record Entered (s : Scan) (rows out : ℕ) : Type 0 where
  pub width_least : 1 ≤ s.width
  pub width_most : s.width ≤ 1024
  pub rows_most : s.rows ≤ 65535
  pub room : rows ≤ out

pub entered : (s : Scan) (rows out : ℕ) → verdict (burst_asks s rows out) ≡ accepted [] → Entered s rows out
unfolding burst_asks
entered s rows out e =
    let y = all_yes (burst_asks s rows out) e in
    let g = agreed s y.0 in
    let w = width_bounds g.width in
    record { width_least = w.0; width_most = w.1; rows_most = g.rows; room = leb-true rows out y.1.1.1.0 }

-- the rows lie in the slice, and their filtered rows have place in the output
pub rows_in : (s : Scan) (rows : ℕ) → rows / s.width * s.width ≤ rows
rows_in s rows = div-mul-le_self rows s.width

pub rows_out : (s : Scan) (rows out : ℕ) → Entered s rows out → rows / s.width * s.width ≤ out
rows_out s rows out h = le_trans (rows_in s rows) h.room
