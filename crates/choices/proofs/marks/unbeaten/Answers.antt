use Rattle.std.proofs.Common.{◌≡◌, ◌∙◌, not, true, T, sym, ap, subst, refl, arith, length, get_or, Some, None}
use Rattle.arith.proofs.Alls.{all_of, all_fails}
use Rattle.arith.proofs.Bools.{true_of}
use Rattle.choices.specs.Choices.{rating_of, beats, unbeaten}
use Rattle.choices.specs.Stores.{stored}
use Rattle.choices.proofs.marks.unbeaten.Goals as goal

pub returns-in_default : goal.returns-in_default
unfolding unbeaten
returns-in_default c = let e : get_or c.args.figures.now c.args.i None ≡ None = c.in_default.is in rw e refl

pub returns-then-beats : goal.returns-then-beats
unfolding unbeaten
returns-then-beats c =
    let fs = c.args.figures.now in
    let own = c.in-Some.own in
    let e : get_or fs c.args.i None ≡ Some own = c.in-Some.is in
    let test : beats (stored fs c.loop-choice.choice-index) (rating_of (Some own)) ≡ true = sym c.beats.ensures ∙ c.if-beats.true in
    rw e (sym (all_fails (length fs) (λ j. not (beats (stored fs j) (rating_of (Some own)))) c.loop-choice.choice-index c.loop-choice-test.true (ap not test)))

pub returns : goal.returns
unfolding unbeaten
returns c =
    let fs = c.args.figures.now in
    let own = c.in-Some.own in
    let e : get_or fs c.args.i None ≡ Some own = c.in-Some.is in
    let l = c.loop-choice-test.false in
    rw e
    (sym (true_of _ (all_of (length fs) (λ j. not (beats (stored fs j) (rating_of (Some own))))
    (λ j h. subst T (ap not (sym (c.loop-choice.invariant j (omega arith)))) tt))))
