-- Piece after piece is put: what stands is the text's first bytes, filled in.
-- Assumes nothing.
use native.Mathlib.Omega.{arith}
use mathlib.Core.Path.{refl, ◌∙◌}
use mathlib.Core.List.{[], ◌∷◌}
use lib.ListN.{get_or}
use Rattle.text.specs.Ascii.{filled}
use Rattle.text.proofs.Puts.{put_none, kept}
use Rattle.text.proofs.Pieces.{up_to, piece_put, piece_next, next_le}
use Rattle.text.proofs.filling.put_filled.Goals as goal

pub loop-j-init : goal.loop-j-init
unfolding up_to filled
loop-j-init c = (omega arith, omega arith, omega arith, refl, put_none _ 0 (omega arith), refl)

pub loop-j-preserved : goal.loop-j-preserved
loop-j-preserved c = let a = c.args in
    let i = c.loop-j.invariant in
    let p = c.put_piece-at.ensures in
    let g = rw c.pick.ensures at p.put in
    let n = c.next_number-k.ensures in
    let t = piece_put a.out.now _ _ a.text.now (a.x ∷ a.y ∷ a.z ∷ []) _ _ c.loop-j.k c.loop-j.j (omega arith) i.3 i.4 g in (
      omega arith,
      omega arith,
      rw n (next_le (get_or a.text.now c.loop-j.j 0) c.loop-j.k c.loop-j.j i.2),
      n ∙ piece_next a.text.now c.loop-j.k c.loop-j.j (omega arith) i.3,
      t,
      kept t,
    )
