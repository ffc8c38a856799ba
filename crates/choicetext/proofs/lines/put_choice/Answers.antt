-- `choicetext::lines::put_choice`: a line where the choice is listed and within most, else nothing.
-- Assumes nothing.
use Rattle.std.proofs.Common.{◌≡◌, true, None, Some, sym, ap, ◌∙◌, arith}
use Rattle.figures.specs.Measured.{figures_of}
use Rattle.choices.specs.Choices.{with_drops, listed}
use Rattle.text.proofs.Puts.{put_none}
use Rattle.choicetext.proofs.Shown.{not_listed, no_figures, far_below, far_above, near}
use Rattle.choicetext.proofs.lines.put_choice.Goals as goal

pub returns-then-not-is_listed-clause-put : goal.returns-then-not-is_listed-clause-put
returns-then-not-is_listed-clause-put c =
    let a = c.args in
    let h = c.requires.at_in_bounds in
    rw (not_listed a.t.now a.width a.most a.i (sym c.requires.i_bound.1 ∙ c.if-not-is_listed.true)) (put_none _ _ (omega arith))

pub returns-in_default-clause-put : goal.returns-in_default-clause-put
returns-in_default-clause-put c =
    let a = c.args in
    let h = c.requires.at_in_bounds in
    let is-listed : listed a.t.now a.width a.i ≡ true = sym c.requires.i_bound.1 ∙ c.if-not-is_listed.false in
    let is : figures_of (with_drops a.t.now a.i) a.width ≡ None = ap (λ u. figures_of u a.width) (sym c.with_drops.ensures) ∙ sym c.measure.ensures ∙ c.in_default.is in
    rw (no_figures a.t.now a.width a.most a.i is-listed is) (put_none _ _ (omega arith))

pub returns-then-most-f-clause-put : goal.returns-then-most-f-clause-put
returns-then-most-f-clause-put c =
    let a = c.args in
    let h = c.requires.at_in_bounds in
    let is-listed : listed a.t.now a.width a.i ≡ true = sym c.requires.i_bound.1 ∙ c.if-not-is_listed.false in
    let is : figures_of (with_drops a.t.now a.i) a.width ≡ Some c.in-Some.f = ap (λ u. figures_of u a.width) (sym c.with_drops.ensures) ∙ sym c.measure.ensures ∙ c.in-Some.is in
    rw (far_below a.t.now a.width a.most a.i is-listed is c.if-most-f.true) (put_none _ _ (omega arith))

pub returns-then-most-f-2-clause-put : goal.returns-then-most-f-2-clause-put
returns-then-most-f-2-clause-put c =
    let a = c.args in
    let h = c.requires.at_in_bounds in
    let is-listed : listed a.t.now a.width a.i ≡ true = sym c.requires.i_bound.1 ∙ c.if-not-is_listed.false in
    let is : figures_of (with_drops a.t.now a.i) a.width ≡ Some c.in-Some.f = ap (λ u. figures_of u a.width) (sym c.with_drops.ensures) ∙ sym c.measure.ensures ∙ c.in-Some.is in
    rw (far_above a.t.now a.width a.most a.i is-listed is c.if-most-f.false c.if-most-f-2.true) (put_none _ _ (omega arith))

pub returns-clause-put : goal.returns-clause-put
returns-clause-put c =
    let a = c.args in
    let p = c.put_line.ensures in
    let is-listed : listed a.t.now a.width a.i ≡ true = sym c.requires.i_bound.1 ∙ c.if-not-is_listed.false in
    let is : figures_of (with_drops a.t.now a.i) a.width ≡ Some c.in-Some.f = ap (λ u. figures_of u a.width) (sym c.with_drops.ensures) ∙ sym c.measure.ensures ∙ c.in-Some.is in
    rw (near a.t.now a.width a.most a.i is-listed is c.if-most-f.false c.if-most-f-2.false) p.put
