-- What is decoded, and of that the whole rows before the first sample that is too large, are within the store.
-- Assumes nothing.
use Rattle.std.proofs.Common.{sym, arith}
use Rattle.std.proofs.lemmas.List.{length-take-le}
use Rattle.stripfilter.proofs.Bounds.{decoded_in, decoded_few, first_in, whole_in}
use Rattle.stripfilter.proofs.rows.some_rows.Goals as goal

pub slice_bounds-first_above-end : goal.slice_bounds-first_above-end
slice_bounds-first_above-end g c = let d = decoded_in _ _ _ _ c.decode-n.ensures.value in
    let k = c.decode-n.auto.out in
    omega arith

pub slice_bounds-first_above-end-2 : goal.slice_bounds-first_above-end-2
slice_bounds-first_above-end-2 g c = let d = decoded_in _ _ _ _ c.decode-n.ensures.value in
    let k = c.decode-n.auto.out in
    sym (length-take-le _ _ (omega arith))

pub slice_bounds-take-end : goal.slice_bounds-take-end
slice_bounds-take-end g c = let d = decoded_in _ _ _ _ c.decode-n.ensures.value in
    let k = c.decode-n.auto.out in
    let p = first_in _ _ _ c.first_above-place.ensures in
    let w = whole_in _ _ _ c.whole_part-good.ensures in
    let l = length-take-le c.decode-n.result c.decode-n.new.out (omega arith) in
    omega arith

pub slice_bounds-take-end-2 : goal.slice_bounds-take-end-2
slice_bounds-take-end-2 g c = let d = decoded_in _ _ _ _ c.decode-n.ensures.value in
    let k = c.decode-n.auto.out in
    let p = first_in _ _ _ c.first_above-place.ensures in
    let w = whole_in _ _ _ c.whole_part-good.ensures in
    let l = length-take-le c.decode-n.result c.decode-n.new.out (omega arith) in
    sym (length-take-le _ _ (omega arith))

pub take-taken-requires : goal.take-taken-requires
take-taken-requires g c = let d = decoded_in _ _ _ _ c.decode-n.ensures.value in
    let few = decoded_few _ _ _ _ _ _ c.decode-n.ensures.value (rw c.requires.accepted.row at c.requires.few) in
    let k = c.decode-n.auto.out in
    let p = first_in _ _ _ c.first_above-place.ensures in
    let w = whole_in _ _ _ c.whole_part-good.ensures in
    let l = length-take-le c.decode-n.result c.decode-n.new.out (omega arith) in
    let m = length-take-le c.whole_part-good.result c.decode-n.new.out (omega arith) in
    omega arith
