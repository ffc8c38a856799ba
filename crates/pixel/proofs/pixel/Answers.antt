-- The questions, then the pixel of the rule on a scan whose samples have b bits.
use Rattle.std.proofs.Common.{◌≡◌, ℕ, List, [], ◌∷◌, pos, length, sym, ap, ◌∙◌, arith, rules, w32, to_z-of_z}
use Rattle.layout.specs.declared.Table.{Table}
use Rattle.layout.specs.Answers.{Said, refused, accepted, verdict}
use Rattle.layout.proofs.Questions.{on_verdict, first_verdict}
use Rattle.rule.specs.Sums.{sample_at}
use Rattle.rule.specs.Pixels.{pixel_of}
use Rattle.rule.proofs.Asked.{width_bounds, height_bounds, place_bounds}
use Rattle.pixel.specs.Call.{pixel_asks, pixel_answer}
use Rattle.pixel.proofs.Accepts.{accepts}
use Rattle.pixel.proofs.pixel.Goals as goal

-- what the call says, by the verdict of its questions
answer_is : (t : Table) (l : ℕ) (xs : List ℕ) (r c : ℕ) (s : Said) → s ≡ verdict (pixel_asks t l xs r c)
    → on_verdict s refused (accepted (pixel_of t (sample_at l xs) (pos r) (pos c) ∷ [])) ≡ pixel_answer t l xs r c
unfolding pixel_answer
answer_is t l xs r c s e =
    ap (λ v. on_verdict v refused (accepted (pixel_of t (sample_at l xs) (pos r) (pos c) ∷ []))) e
    ∙ sym (first_verdict (pixel_asks t l xs r c) refused (accepted (pixel_of t (sample_at l xs) (pos r) (pos c) ∷ [])))

pub returns-in_err-asked : goal.returns-in_err-asked
returns-in_err-asked c =
    let a = c.args in
    let h = answer_is a.t a.width a.samples.now a.r a.c _ c.in_err-asked.ensures in
    search (rules, h)

pub invariant_of-value : goal.invariant_of-value
invariant_of-value c =
    let a = c.args in
    record { narrow = (width_bounds (accepts a.t a.width a.samples.now a.r a.c (sym c.in_ok-asked.ensures)).width).1 }

pub value-requires-clause-t_value : goal.value-requires-clause-t_value
value-requires-clause-t_value c =
    let a = c.args in
    let h = accepts a.t a.width a.samples.now a.r a.c (sym c.in_ok-asked.ensures) in
    (h.table, h.bits)

pub value-requires-clause-width_bound : goal.value-requires-clause-width_bound
value-requires-clause-width_bound c =
    let a = c.args in
    let h = accepts a.t a.width a.samples.now a.r a.c (sym c.in_ok-asked.ensures) in
    let w = (width_bounds h.width).1 in
    let m = (height_bounds h.width h.height).most in
    let p = place_bounds a.width (length a.samples.now) a.r a.c h.place in
    (omega arith, omega arith)

pub returns : goal.returns
returns c =
    let a = c.args in
    ap (λ p. accepted (p ∷ [])) (to_z-of_z {w = w32} (record { sfits = c.value.type_inv }) ∙ c.value.ensures)
    ∙ answer_is a.t a.width a.samples.now a.r a.c (accepted []) c.in_ok-asked.ensures
