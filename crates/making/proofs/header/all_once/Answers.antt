-- One kind after the other.
-- Assumes nothing.
use Rattle.std.proofs.Common.{◌≡◌, ℕ, List, ◌++◌, Err, ap, ◌∙◌, rules}
use Rattle.layout.specs.Answers.{Question}
use Rattle.forms.specs.Faults.{text_said}
use Rattle.making.specs.Making.{once_asks, all_once, lines_with}
use Rattle.making.proofs.Chains.{text_stops, text_goes}
use Rattle.making.proofs.header.all_once.Goals as goal

-- of one kind, and of those from a kind on
abbrev one : (kind : ℕ) → (text : List ℕ) → List Question
one kind text = once_asks kind (lines_with kind text)

abbrev from_shift : (text : List ℕ) → List Question
from_shift text = one 2 text ++ one 3 text

abbrev from_drops : (text : List ℕ) → List Question
from_drops text = one 1 text ++ from_shift text

pub returns-in_err-once : goal.returns-in_err-once
unfolding all_once
returns-in_err-once c =
    let t = c.args.text.now in
    let e : c.from_residual.result ≡ Err c.in_err-once.field-0.0 = search rules in
    ap text_said e ∙ text_stops (one 0 t) (from_drops t) _ c.once.ensures _ c.in_err-once.was

pub returns-in_err-once-2 : goal.returns-in_err-once-2
unfolding all_once
returns-in_err-once-2 c =
    let t = c.args.text.now in
    let e : c.from_residual-in_err-once-2.result ≡ Err c.in_err-once-2.field-0.0 = search rules in
    ap text_said e ∙ text_stops (one 1 t) (from_shift t) _ c.once-2.ensures _ c.in_err-once-2.was
    ∙ text_goes (one 0 t) (from_drops t) _ c.once.ensures c.in_ok-once.was

pub returns-in_err-once-3 : goal.returns-in_err-once-3
unfolding all_once
returns-in_err-once-3 c =
    let t = c.args.text.now in
    let e : c.from_residual-in_err-once-3.result ≡ Err c.in_err-once-3.field-0.0 = search rules in
    ap text_said e ∙ text_stops (one 2 t) (one 3 t) _ c.once-3.ensures _ c.in_err-once-3.was
    ∙ text_goes (one 1 t) (from_shift t) _ c.once-2.ensures c.in_ok-once-2.was
    ∙ text_goes (one 0 t) (from_drops t) _ c.once.ensures c.in_ok-once.was

pub returns : goal.returns
unfolding all_once
returns c =
    let t = c.args.text.now in
    c.once-4.ensures ∙ text_goes (one 2 t) (one 3 t) _ c.once-3.ensures c.in_ok-once-3.was
    ∙ text_goes (one 1 t) (from_shift t) _ c.once-2.ensures c.in_ok-once-2.was
    ∙ text_goes (one 0 t) (from_drops t) _ c.once.ensures c.in_ok-once.was
