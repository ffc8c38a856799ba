-- A line of the kind, or the lines behind one of another.
-- Assumes nothing.
use Rattle.std.proofs.Common.{◌≡◌, length, eqb, true, false, sym, ap, ◌∙◌, rules}
use Rattle.words.specs.Words.{words_of}
use Rattle.forms.specs.Forms.{kind_of, kind_number}
use Rattle.making.proofs.Findings.{kind_is, kind_end, left_hit, left_miss}
use Rattle.making.proofs.lines.OfKindIterator.next.Goals as goal

pub returns-then-eq-clause-steps : goal.returns-then-eq-clause-steps
returns-then-eq-clause-steps c =
    let s = c.in-Some.ensures.steps in
    let e : eqb (kind_of (words_of c.in-Some.line.bytes.now)) (kind_number c.loop-line.self.kind) ≡ true =
    ap (λ n. eqb n (kind_number c.loop-line.self.kind)) (sym c.of.ensures) ∙ sym (kind_is _ _) ∙ sym c.eq.ensures ∙ c.if-eq.true in
    sym c.loop-line.invariant ∙ left_hit _ _ _ _ s.0 s.1 _ _ _ s.2 e

pub returns-then-eq-clause-goes : goal.returns-then-eq-clause-goes
returns-then-eq-clause-goes c =
    let s = c.in-Some.ensures.steps in
    let e : eqb (kind_of (words_of c.in-Some.line.bytes.now)) (kind_number c.loop-line.self.kind) ≡ true =
    ap (λ n. eqb n (kind_number c.loop-line.self.kind)) (sym c.of.ensures) ∙ sym (kind_is _ _) ∙ sym c.eq.ensures ∙ c.if-eq.true in
    let shorter = ap length (sym c.loop-line.invariant ∙ left_hit _ _ _ _ s.0 s.1 _ _ _ s.2 e) in
    search rules

pub loop-line-preserved : goal.loop-line-preserved
loop-line-preserved c =
    let s = c.in-Some.ensures.steps in
    let e : eqb (kind_of (words_of c.in-Some.line.bytes.now)) (kind_number c.loop-line.self.kind) ≡ false =
    ap (λ n. eqb n (kind_number c.loop-line.self.kind)) (sym c.of.ensures) ∙ sym (kind_is _ _) ∙ sym c.eq.ensures ∙ c.if-eq.false in
    left_miss _ _ _ _ s.0 s.1 _ _ _ s.2 e ∙ c.loop-line.invariant

pub returns-clause-steps : goal.returns-clause-steps
returns-clause-steps c =
    let s = rw c.in_default.is at c.next.ensures.steps in
    (sym c.loop-line.invariant ∙ kind_end _ _ _ s.0, kind_end _ _ _ s.1)
