-- What the answers to a filter's own questions tell.
-- Assumes nothing.
use Rattle.std.proofs.Common.{◌≡◌, refl, sym, ap, ◌∙◌, ℕ, true, List, [], Result, Ok, Err, is_ok, eqb}
use Rattle.std.proofs.Common.{◌++◌}
use Rattle.layout.specs.declared.asking.Refusal.{Refusal}
use Rattle.layout.specs.Answers.{refused, accepted, Question, first_no, verdict, said}
use Rattle.layout.proofs.Questions.{first_map, first_append, first_verdict, on_verdict}
use Rattle.std.proofs.Common.{leb, ◌≤◌, T, subst, leb→le}
use mir.Facts.{and_yes}
use Rattle.arith.proofs.Bools.{true_of}
use native.Mathlib.Omega.{arith}
use Rattle.rule.specs.Questions.{width_good}
use Rattle.rule.proofs.Asked.{width_bounds}
use Rattle.machine.specs.Rules.{Rules, good}
use Rattle.machine.specs.Calls.{Machine, agrees}

yes_said : (v : Result (Unit {0}) Refusal) → is_ok v ≡ eqb (said v).kind 1
yes_said (Ok x) = refl
yes_said (Err r) = refl

-- a verdict is accepted where every question is answered yes
pub said_good : {F : Type 0} (r : Rules F) (f : F) (v : Result (Unit {0}) Refusal) → said v ≡ verdict (r.asks f) → is_ok v ≡ good r f
said_good r f v e = yes_said v ∙ ap (λ s. eqb s.kind 1) e ∙ first_map (λ s. eqb s.kind 1) (r.asks f) refused (accepted [])

-- what a call comes to whose first questions have this verdict
pub first_after : {A : Type 0} (ps qs : List Question) (f : (number place : ℕ) → A) (a : A) (v : Result (Unit {0}) Refusal) → said v ≡ verdict ps
    → first_no (ps ++ qs) f a ≡ on_verdict (said v) f (first_no qs f a)
first_after ps qs f a v e = first_append ps qs f a ∙ first_verdict ps f (first_no qs f a) ∙ ap (λ s. on_verdict s f (first_no qs f a)) (sym e)

pub first_by : {A : Type 0} (qs : List Question) (f : (number place : ℕ) → A) (a : A) (v : Result (Unit {0}) Refusal) → said v ≡ verdict qs
    → first_no qs f a ≡ on_verdict (said v) f a
first_by qs f a v e = first_verdict qs f a ∙ ap (λ s. on_verdict s f a) (sym e)

-- what a state whose numbers agree is known by, with what its delay is known by
pub agrees_bounds : {F : Type 0} (r : Rules F) (m : Machine F) → agrees r m ≡ true → {d : ℕ} → d ≡ r.delay m.filter → d ≤ 15
    → (good r m.filter ≡ true) × (m.state.width ≤ 1024) × (m.state.rows ≤ 65535) × (m.state.steps ≤ 15)
agrees_bounds r m e is most =
    let a = and_yes (good r m.filter) _ (subst T (sym e) tt) in
    let b = and_yes (width_good m.state.width) _ a.1 in
    let c = and_yes (leb m.state.rows 65535) _ b.1 in
    let s = leb→le m.state.steps (r.delay m.filter) (and_yes (leb m.state.steps (r.delay m.filter)) _ c.1).0 in
    (true_of _ a.0, (width_bounds (true_of _ b.0)).1, leb→le m.state.rows 65535 c.0, omega arith)
