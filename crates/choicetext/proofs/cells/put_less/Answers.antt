-- `choicetext::cells::put_less`: 0 has no sign; any other number has one in front.
-- Assumes nothing.
use Rattle.text.proofs.Puts.{put_then}
use Prim.Native.Nat.{ℕ, zero, suc}
use mathlib.Core.Path.{◌≡◌, refl, ap}
use mathlib.Core.List.{◌∷◌}
use lib.IntN.{pos, neg_ℤ}
use Rattle.text.specs.Text.{cell, signed_cell}
use Rattle.choicetext.proofs.cells.put_less.Goals as goal

none : {n : ℕ} → n ≡ 0 → signed_cell (neg_ℤ (pos n)) 32 ≡ cell 0 32
unfolding signed_cell
none e = ap (λ n. signed_cell (neg_ℤ (pos n)) 32) e

some : {n : ℕ} → ¬ (n ≡ 0) → signed_cell (neg_ℤ (pos n)) 32 ≡ 45 ∷ cell n 32
unfolding signed_cell
some {n = zero} h = absurd (h refl)
some {n = suc n} h = refl

pub returns-then-n-eq0-clause-put : goal.returns-then-n-eq0-clause-put
returns-then-n-eq0-clause-put c =
    let p = c.put_cell.ensures in
    rw (none c.if-n-eq0.true) p.put

pub returns-clause-put : goal.returns-clause-put
returns-clause-put c =
    let p = c.put_cell-2.ensures in
    let q = c.put_bytes-a.ensures in
    let n = q.next_is in
    rw (some c.if-n-eq0.false) (put_then q p.put)
