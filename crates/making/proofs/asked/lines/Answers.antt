-- Line by line.
-- Assumes nothing.
use Rattle.std.proofs.Common.{◌≡◌, Err, ap, ◌∙◌, rules}
use Rattle.forms.specs.Faults.{text_said}
use Rattle.making.proofs.Chains.{looked_all, look_stops, look_goes}
use Rattle.making.proofs.asked.lines.Goals as goal

pub returns-in_err-look : goal.returns-in_err-look
returns-in_err-look c =
    let s = c.in-Some.ensures.steps in
    let e : c.from_residual.result ≡ Err c.in_err-look.field-0.0 = search rules in
    ap text_said e ∙ look_stops _ _ _ c.loop-line.invariant _ _ s.0 s.1 _ _ s.2 _ c.look.ensures _ c.in_err-look.was

pub loop-line-preserved : goal.loop-line-preserved
loop-line-preserved c =
    let s = c.in-Some.ensures.steps in
    look_goes _ _ _ c.loop-line.invariant _ _ s.0 s.1 _ _ s.2 _ c.look.ensures c.in_ok-look.was

pub returns : goal.returns
returns c = looked_all _ _ _ c.loop-line.invariant c.in-None.ensures.steps.0
