-- Question 11 is the count, question 10 with those before it, and question 8 on each rectangle; in any order the conjunction is the same.
use Rattle.std.proofs.Common.{◌≡◌, ◌≤◌, true, length, sym, ◌∙◌, arith, rules, le-leb}
use Rattle.std.proofs.lemmas.Bool.Decides.{nat_tests}
use Rattle.limits.specs.Limits.{fitting}
use Rattle.limits.proofs.Asked.{fitting_few}
use Rattle.limits.proofs.Values.{acceptable_asked, slots_asked}
use Rattle.limits.proofs.accept.accepted.Goals.{then-t-ge1, else-t-ge1}
use Rattle.limits.proofs.accept.accepted.Goals as goal

pub returns-then-value_good : goal.returns-then-value_good
returns-then-value_good c =
    let t = c.args.t in
    let v = c.if-value_good.true in
    let both : (1 ≤ t.count) × (fitting t ≡ true) = elim c.if-t-ge1.branch [
      | then-t-ge1 w ↦ (w.if-t-ge1.true, sym w.value_good.ensures ∙ sym w.value-is ∙ v)
      | else-t-ge1 w ↦ let n = w.if-t-ge1.false in let i = w.value-is in absurd (grind (arith, nat_tests, n, i, v))
    ] in
    let few = fitting_few t both.1 in
    let far : length t.rects ≡ 16 = search rules in
    rw (acceptable_asked t, le-leb _ _ both.0, both.1) (slots_asked t c.rects_good.result few far (rw c.rects.ensures.items at c.rects_good.ensures))

pub returns-else-value_good : goal.returns-else-value_good
returns-else-value_good c =
    let a = acceptable_asked c.args.t in
    let f = c.if-value_good.false in
    elim c.if-t-ge1.branch [
      | then-t-ge1 w ↦ let i = w.value-is in let e = w.value_good.ensures in let o = w.if-t-ge1.true in grind (arith, nat_tests, a, f, i, e, o)
      | else-t-ge1 w ↦ let i = w.value-is in let o = w.if-t-ge1.false in grind (arith, nat_tests, a, f, i, o)
    ]
