-- What a text comes to, by the verdicts on its parts.
-- Assumes nothing.
use Rattle.std.proofs.Common.{ℕ, ◌≤◌, ◌<◌, ◌≡◌, refl, sym, ap, ◌∙◌, cond, List, [], ◌∷◌, ◌++◌, length, le-leb}
use Rattle.std.proofs.lemmas.Bool.{lt-leb}
use Rattle.std.specs.Prelude.{Err}
use Rattle.layout.specs.Answers.{Question, refused as Refused, accepted, asks, first_no, verdict}
use Rattle.layout.proofs.Questions.{on_verdict, first_append, first_verdict, first_map, same_questions, all_yes}
use Rattle.limits.specs.Limits.{value_good}
use Rattle.layout.specs.Contents.{no_rects, table_of}
use Rattle.table.specs.Format.{Outcome, refused, loaded, handed, handed_out}
use Rattle.forms.specs.declared.faults.TextRefusal.{TextRefusal}
use Rattle.forms.specs.Faults.{text_said}
use Rattle.making.specs.declared.error.MakeError.{MakeError}
use Rattle.making.specs.declared.error.MakeError.TheVariants.{Rule, Text}
use Rattle.making.specs.Errors.{error_said, made_given}
use Rattle.making.specs.Making.{contents_of, head_asks, tail_asks, make_asks, make_of}
use Rattle.making.specs.Steps.{held_contents, collected, fit_held}
use Rattle.making.proofs.Granted.{contents_exact, fitting_text}

module _ (text : List ℕ) where
  abbrev ten : List Question
  ten = asks 10 (value_good (contents_of text)) ∷ []

  -- the text is too long
  pub make_long : 65535 < length text → refused 113 0 ≡ make_of text
  unfolding make_of make_asks
  make_long h = rw (lt-leb (length text) 65535 h) refl

  module _ (short : length text ≤ 65535) where
    abbrev behind : Outcome
    behind = first_no (tail_asks text) refused (first_no ten refused (loaded (contents_of text)))

    make_is : make_of text ≡ on_verdict (verdict (head_asks text)) refused behind
    unfolding make_of make_asks
    make_is =
        rw (le-leb (length text) 65535 short)
        (first_append (head_asks text) (tail_asks text ++ ten) refused (loaded (contents_of text))
        ∙ first_verdict (head_asks text) refused (first_no (tail_asks text ++ ten) refused (loaded (contents_of text)))
        ∙ ap (on_verdict (verdict (head_asks text)) refused) (first_append (tail_asks text) ten refused (loaded (contents_of text))))

    -- a no before the rectangles
    pub make_stops : {n p : ℕ} → verdict (head_asks text) ≡ Refused n p → refused n p ≡ make_of text
    make_stops e = sym (make_is ∙ ap (λ v. on_verdict v refused behind) e)

    -- the rectangles and question 10, of the numbers as they are held
    pub make_goes : verdict (head_asks text) ≡ accepted [] → fit_held (collected text) ≡ make_of text
    make_goes e =
        first_map fit_held (tail_asks text) refused (loaded (held_contents text))
        ∙ same_questions (λ x y. x ≡ y) (tail_asks text) refused (fit_held (loaded (held_contents text))) refused
        (first_no ten refused (loaded (contents_of text)))
        (λ n p. refl)
        (λ y. ap (λ c. fit_held (loaded c)) (contents_exact text (all_yes (head_asks text) e) y)
        ∙ ap (λ b. cond b (loaded (contents_of text)) (refused 10 0)) (fitting_text text (all_yes (head_asks text) e) y))
        ∙ sym (make_is ∙ ap (λ v. on_verdict v refused behind) e)

    -- the same of what the call answers
    pub error_stops : (e : MakeError) → error_said e ≡ verdict (head_asks text) → made_given (Err e) ≡ handed_out (make_of text)
    error_stops (Rule r) h = ap handed_out (make_stops (sym h))
    error_stops (Text r) h = ap handed_out (make_stops (sym h))

-- a text that is too long
pub long_given : (text : List ℕ) (r : TextRefusal) → text_said (Err r) ≡ Refused 113 0 → 65535 < length text → made_given (Err (Text r))
    ≡ handed_out (make_of text)
long_given text r e h = ap (λ s. handed s (table_of (no_rects 0 0 0 0 0 0))) e ∙ ap handed_out (make_long text h)
