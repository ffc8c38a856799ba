-- Refused by its questions, or compared.
use Rattle.std.proofs.Common.{◌≡◌, ℕ, ◌≤◌, List, [], T, length, sym, ap, ◌∙◌, subst, leb→le, rules}
use Rattle.layout.specs.declared.Table.{Table}
use Rattle.layout.specs.Answers.{Said, refused, accepted, verdict, wrote}
use Rattle.layout.proofs.Questions.{on_verdict, first_verdict, all_yes}
use Rattle.limits.proofs.Granted.{granted}
use Rattle.same.specs.Same.{same_asks, first_unlike, compared_at, same_of}
use Rattle.same.proofs.same.Goals as goal

left_is : (t u : Table) (scan : List ℕ) (s : Said) → s ≡ verdict (same_asks t u (length scan))
    → on_verdict s (λ n p. wrote (refused n p) scan) (compared_at t (first_unlike t u) scan) ≡ same_of t u scan
unfolding same_of
left_is t u scan s e =
    ap (λ v. on_verdict v (λ n p. wrote (refused n p) scan) (compared_at t (first_unlike t u) scan)) e
    ∙ sym (first_verdict (same_asks t u (length scan)) (λ n p. wrote (refused n p) scan) (compared_at t (first_unlike t u) scan))

-- what passed the questions can be compared
ready : (t u : Table) (n : ℕ) → verdict (same_asks t u n) ≡ accepted [] → (t.b ≤ 12) × (961 ≤ n)
unfolding same_asks
ready t u n e = let y = all_yes (same_asks t u n) e in ((granted t y.0).bits_most, leb→le 961 n (subst T (sym y.1.1.1.1.0) tt))

pub returns-in_err-asked : goal.returns-in_err-asked
returns-in_err-asked c = let h = left_is _ _ c.args.scan.now _ c.in_err-asked.ensures in search (rules, h)

pub compared-requires-clause-bits : goal.compared-requires-clause-bits
compared-requires-clause-bits c = (ready _ _ _ (sym c.in_ok-asked.ensures)).0

pub compared-requires-clause-in_bounds : goal.compared-requires-clause-in_bounds
compared-requires-clause-in_bounds c = (ready _ _ _ (sym c.in_ok-asked.ensures)).1

pub returns : goal.returns
returns c = c.compared.ensures ∙ left_is _ _ c.args.scan.now (accepted []) c.in_ok-asked.ensures
