-- A look at each byte from the place on: what is left of the line is the same, one byte shorter.
-- Assumes nothing.
use native.Mathlib.Omega.{arith}
use native.Mathlib.Numerals.{add-one}
use borrow.Author.Tests.{eq-eqb, ne_eqb}
use Rattle.text.proofs.Feeds.{line_on, line_ends, line_none}
use Rattle.text.proofs.lines.line_end.Goals as goal

pub returns-then-text-i-eq10-clause-value : goal.returns-then-text-i-eq10-clause-value
returns-then-text-i-eq10-clause-value c =
    let a = c.args in
    let g = line_ends a.text.now c.loop-i.i (omega arith) (eq-eqb _ _ c.if-text-i-eq10.true) in
    let v = c.loop-i.invariant.1 in
    omega arith

pub loop-i-preserved : goal.loop-i-preserved
loop-i-preserved c = let a = c.args in
    let g = line_on a.text.now c.loop-i.i (omega arith) (ne_eqb _ _ c.if-text-i-eq10.false) in
    let v = c.loop-i.invariant.1 in
    ((λ h. omega arith), rw add-one (omega arith))

pub returns-clause-value : goal.returns-clause-value
returns-clause-value c =
    let a = c.args in
    let g = line_none a.text.now c.loop-i.i (omega arith) in
    let v = c.loop-i.invariant.1 in
    omega arith
