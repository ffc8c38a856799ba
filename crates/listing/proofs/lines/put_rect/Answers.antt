-- The seven figures of a rectangle, three, three and one.
-- Assumes nothing.
use Rattle.listing.specs.Listing.{rect_line}
use Rattle.layout.specs.Contents.{rect}
use mir.Val.{SFits}
use mir.Syntax.{w16}
use mir.Facts.{to_z-of_z}
use Rattle.text.proofs.Puts.{put_then}
use borrow.Author.Rules.{rules}
use Rattle.listing.proofs.lines.put_rect.Goals as goal

pub returns-clause-put : goal.returns-clause-put
unfolding rect_line
returns-clause-put c =
    let a = c.args in
    let r = rect a.t.now a.k in
    let f : SFits w16 r.weight = search rules in
    let x = c.put_three-a.ensures in
    let y = c.put_three-a-2.ensures in
    let z = rw (to_z-of_z f) at c.put_signed.ensures in
    rw (
      ← c.rows-m.ensures.value,
      ← c.columns-n.ensures.value,
      ← c.column_word-column.ensures,
      ← c.window_word-window.ensures,
      ← c.loss_of-lost.ensures,
    )
    (put_then (put_then x.put y.put) z.put)
