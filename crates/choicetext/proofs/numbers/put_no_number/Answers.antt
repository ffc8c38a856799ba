-- `choicetext::numbers::put_no_number`: one put after the other, for which there is room.
-- Assumes nothing.
use Rattle.text.specs.Ascii.{ascii}
use Rattle.text.proofs.Puts.{put_then}
use Rattle.choicetext.specs.Numbers.{no_number_text}
use Rattle.choicetext.proofs.numbers.put_no_number.Goals as goal

pub returns : goal.returns
unfolding no_number_text ascii
returns c = let p = c.put_bytes-a.ensures in
    let q = c.put_bytes-a-2.ensures in
    let r = c.put_bytes-a-3.ensures in
    let t = c.put_bytes-a-4.ensures in
    put_then (put_then (put_then (put_then p q) r) t) c.put_bytes.ensures
