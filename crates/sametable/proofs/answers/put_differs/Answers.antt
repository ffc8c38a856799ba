-- `sametable::put_differs`: the offset, then the weights.
-- Assumes nothing.
use Rattle.std.proofs.Common.{to_z-of_z}
use Rattle.text.specs.Ascii.{ascii}
use Rattle.text.proofs.Puts.{put_then}
use Rattle.sametable.specs.Comparison.{differ_text}
use Rattle.sametable.proofs.answers.put_differs.Goals as goal

pub returns : goal.returns
unfolding ascii differ_text
returns c = let row = to_z-of_z c.ranges.row in
    let col = to_z-of_z c.ranges.col in
    let one = rw (row, col) at c.weight.ensures in
    let other = rw (row, col) at c.weight-2.ensures in
    let a = rw row at c.put_word-a.ensures.put in
    let b = rw col at c.put_word-a-2.ensures.put in
    let d = rw (to_z-of_z (record { sfits = c.weight.type_inv }), one) at c.put_word-a-3.ensures.put in
    let e = rw (to_z-of_z (record { sfits = c.weight-2.type_inv }), other) at c.put_word.ensures.put in
    put_then (put_then (put_then a b) d) e
