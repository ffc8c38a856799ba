-- The number follows the words.
use Rattle.std.proofs.Common.{arith}
use Rattle.text.proofs.Cells.{number_length}
use Rattle.text.proofs.Printed.{decimal_is}
use Rattle.text.proofs.Puts.{kept, put_then, put_said}
use Rattle.filtering.proofs.saying.put_count.Goals as goal

pub returns : goal.returns
returns c =
    let d = decimal_is c.args.n c.ranges.n.fits in
    let short = rw d at (number_length c.args.n) in
    let p = c.put_words-at.ensures in
    let pk = kept p in
    let q = put_said (rw d at c.put_number.ensures.value) (rw d at c.put_number.ensures.out_after) (omega arith) in
    let qn = q.next_is in
    record { put = put_then p q; upper_bound = omega arith }
