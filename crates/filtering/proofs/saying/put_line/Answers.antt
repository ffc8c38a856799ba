-- The parts of a fault's text are put one after the other.
use Rattle.std.proofs.Common.{◌∙◌}
use Rattle.std.specs.Prelude.{codes}
use Rattle.std.specs.Fmt.{decimal}
use Rattle.text.proofs.Puts.{put_then}
use Rattle.filtering.proofs.Texts.{put_joined}
use Rattle.filtering.proofs.saying.put_line.Goals as goal

pub returns-in-Table : goal.returns-in-Table
returns-in-Table c =
    let number = rw c.from.ensures at c.put_count-a.ensures.put in
    rw c.in-Table.is (put_then (put_then (put_then number c.put_words-a.ensures) c.put_sentence-a.ensures.put) c.put_words-in-Table.ensures)

pub returns-in-Bad : goal.returns-in-Bad
returns-in-Bad c =
    let name = rw (c.as_bytes.ensures.value ∙ c.name.ensures) at c.put_words-a-in-Bad-2.ensures in
    rw c.in-Bad.is (put_then (put_then (put_then c.put_count-a-in-Bad.ensures.put c.put_words-a-in-Bad.ensures) name) c.put_words-in-Bad.ensures)

pub returns-in-Unended : goal.returns-in-Unended
returns-in-Unended c = rw c.in-Unended.is (put_then c.put_count-a-in-Unended.ensures.put c.put_words-in-Unended.ensures)

pub returns-in-Large : goal.returns-in-Large
returns-in-Large c =
    let name = rw (c.as_bytes-in-Large.ensures.value ∙ c.name-in-Large.ensures) at c.put_words-a-in-Large-2.ensures in
    rw c.in-Large.is
    (put_then (put_then (put_then c.put_count-a-in-Large.ensures.put c.put_words-a-in-Large.ensures) name) c.put_words-in-Large.ensures)

pub returns-in-Maxval : goal.returns-in-Maxval
returns-in-Maxval c =
    let n = rw c.from-in-Maxval.ensures at c.put_count-a-in-Maxval.ensures.put in
    rw c.in-Maxval.is (put_then n c.put_words-in-Maxval.ensures)

pub returns-in-Bits : goal.returns-in-Bits
returns-in-Bits c =
    let n = rw c.from-in-Bits.ensures at c.put_count-a-in-Bits.ensures.put in
    let b = rw c.from-in-Bits-2.ensures at c.put_count-a-in-Bits-2.ensures.put in
    rw c.in-Bits.is (put_then (put_joined (codes " needs more than ") (decimal c.in-Bits.b) n b) c.put_words-in-Bits.ensures)

pub returns-in-Width : goal.returns-in-Width
returns-in-Width c =
    let n = rw c.from-in-Width.ensures at c.put_count-a-in-Width.ensures.put in
    rw c.in-Width.is (put_then n c.put_words-in-Width.ensures)

pub returns-in-Cut : goal.returns-in-Cut
returns-in-Cut c =
    let row = rw c.from-in-Cut.ensures at c.put_count-a-in-Cut.ensures.put in
    let got = put_joined (codes " after ") (decimal c.in-Cut.got) row c.put_count-a-in-Cut-2.ensures.put in
    let need = rw c.from-in-Cut-2.ensures at c.put_count-a-in-Cut-3.ensures.put in
    rw c.in-Cut.is (put_then (put_joined (codes " of ") (decimal c.in-Cut.need) got need) c.put_words-in-Cut.ensures)

pub returns-in-Sample : goal.returns-in-Sample
returns-in-Sample c =
    let row = rw c.from-in-Sample.ensures at c.put_count-a-in-Sample.ensures.put in
    let column = put_joined (codes ", column ") (decimal c.in-Sample.column) row c.put_count-a-in-Sample-2.ensures.put in
    let n = rw c.from-in-Sample-2.ensures at c.put_count-a-in-Sample-3.ensures.put in
    rw c.in-Sample.is
    (put_then (put_joined (codes ": the sample is above the maxval ") (decimal c.in-Sample.n) column n) c.put_words-in-Sample.ensures)

pub returns-in-Engine : goal.returns-in-Engine
returns-in-Engine c =
    let number = rw c.from-in-Engine.ensures at c.put_count-a-in-Engine.ensures.put in
    let place = rw c.from-in-Engine-2.ensures at c.put_count-a-in-Engine-2.ensures.put in
    let both = put_joined (codes ", place ") (decimal c.in-Engine.place) number place in
    rw c.in-Engine.is
    (put_then (put_then (put_then both c.put_words-a-in-Engine.ensures) c.put_sentence-a-in-Engine.ensures.put) c.put_words-in-Engine.ensures)
