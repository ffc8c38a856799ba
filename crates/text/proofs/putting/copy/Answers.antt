-- Byte after byte is put.
-- Assumes nothing.
use lib.ListN.{length-set}
use native.Mathlib.Numerals.{add-one}
use native.Mathlib.Omega.{arith}
use lib.Seq.{paste-suc}
use Rattle.text.proofs.putting.copy.Goals as goal

pub loop-j-preserved : goal.loop-j-preserved
loop-j-preserved c = let a = c.args in
    let i = c.loop-j.invariant in
    let p = c.requires in
    (omega arith, rw (add-one, i.1) (paste-suc a.out.now a.at a.text.now c.loop-j.j 0 (omega arith) (omega arith)), simp length-set i.2)
