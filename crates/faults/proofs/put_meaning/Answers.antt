-- A refusal with its words, or the sentence of a text's own fault.
-- Assumes nothing.
use Rattle.std.proofs.Common.{arith, lt-ltb, le-ltb}
use Rattle.text.specs.Ascii.{ascii}
use Rattle.text.proofs.Puts.{kept, put_then, put_said}
use Rattle.refusals.proofs.Widths.{words_short}
use Rattle.faults.specs.Faults.{meaning_text}
use Rattle.faults.proofs.put_meaning.Goals as goal

pub returns-then-number-ge100-clause-put : goal.returns-then-number-ge100-clause-put
unfolding meaning_text
returns-then-number-ge100-clause-put c = rw (le-ltb _ _ c.if-number-ge100.true) c.put_own.ensures.put

pub returns : goal.returns
unfolding ascii meaning_text
returns c =
    let h = c.requires in
    let w = words_short c.args.number in
    let x = c.put_numbered-a.ensures in
    let y = c.put_refusal.ensures in
    let pn = x.put.next_is in
    let pk = kept x.put in
    let q = put_said y.value y.out_after (omega arith) in
    let qn = q.next_is in
    record { put = rw (lt-ltb _ _ c.if-number-ge100.false) (put_then x.put q); upper_bound = omega arith }
