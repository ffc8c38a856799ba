-- Questions after questions: the first part's no, or where it accepts the second's answer.
-- Assumes nothing.
use Rattle.std.proofs.Common.{◌≡◌, ℕ, suc, List, [], ◌∷◌, ◌++◌, Ok, Err, sym, ap, ap₂, ◌∙◌}
use Rattle.std.specs.Prelude.{Result}
use Rattle.layout.specs.Answers.{Said, Question, refused, accepted, verdict}
use Rattle.layout.proofs.Questions.{on_verdict, first_append, first_verdict}
use Rattle.forms.specs.declared.faults.TextRefusal.{TextRefusal}
use Rattle.forms.specs.Faults.{text_said}
use Rattle.forms.specs.Forms.{line_asks}
use Rattle.making.specs.Making.{lines_ask}

module _ (ps qs : List Question) where
  both : verdict (ps ++ qs) ≡ on_verdict (verdict ps) refused (verdict qs)
  both = first_append ps qs refused (accepted []) ∙ first_verdict ps refused (verdict qs)

  pub chain_stops : {n p : ℕ} → refused n p ≡ verdict ps → refused n p ≡ verdict (ps ++ qs)
  chain_stops e = sym (both ∙ ap (λ x. on_verdict x refused (verdict qs)) (sym e))

  pub chain_goes : accepted [] ≡ verdict ps → verdict qs ≡ verdict (ps ++ qs)
  chain_goes e = sym (both ∙ ap (λ x. on_verdict x refused (verdict qs)) (sym e))

  module _ (v : Result (Unit {0}) TextRefusal) (said : text_said v ≡ verdict ps) where
    pub text_stops : (r : TextRefusal) → v ≡ Err r → text_said (Err r) ≡ verdict (ps ++ qs)
    text_stops r e = chain_stops (ap text_said (sym e) ∙ said)

    pub text_goes : v ≡ Ok tt → verdict qs ≡ verdict (ps ++ qs)
    text_goes e = chain_goes (ap text_said (sym e) ∙ said)

-- ---- the lines of a text by themselves

module _ (place : ℕ) (ls : List (List (List ℕ))) (all : Said) (left : verdict (lines_ask place ls) ≡ all) where
  pub looked_all : ls ≡ [] → accepted [] ≡ all
  unfolding lines_ask
  looked_all e = ap (λ l. verdict (lines_ask place l)) (sym e) ∙ left

  module _ (at next : ℕ) (a : at ≡ place) (b : next ≡ suc place) (ws : List (List ℕ)) (rest : List (List (List ℕ))) (is : ls ≡ ws ∷ rest)
      (v : Result (Unit {0}) TextRefusal) (said : text_said v ≡ verdict (line_asks at ws)) where
    here : verdict (line_asks at ws ++ lines_ask next rest) ≡ all
    unfolding lines_ask
    here = ap₂ (λ p n. verdict (line_asks p ws ++ lines_ask n rest)) a b ∙ ap (λ l. verdict (lines_ask place l)) (sym is) ∙ left

    pub look_stops : (r : TextRefusal) → v ≡ Err r → text_said (Err r) ≡ all
    look_stops r e = text_stops (line_asks at ws) (lines_ask next rest) v said r e ∙ here

    pub look_goes : v ≡ Ok tt → verdict (lines_ask next rest) ≡ all
    look_goes e = text_goes (line_asks at ws) (lines_ask next rest) v said e ∙ here
