-- One line after the other is passed: the line that is left to find is the same.
-- Assumes nothing.
use native.Mathlib.Omega.{arith}
use mathlib.Core.Path.{sym, ◌∙◌}
use Rattle.text.proofs.Feeds.{line_step, line_found}
use Rattle.text.proofs.lines.line.Goals as goal

pub loop-left-preserved : goal.loop-left-preserved
loop-left-preserved c = let e = c.next_line-start.ensures in
    (e.upper_bound c.loop-left.invariant.0, rw e.text_value (sym (line_step c.loop-left.left _ (omega arith)) ∙ c.loop-left.invariant.1))

pub returns : goal.returns
returns c = let e = c.line_end.ensures in
    line_found _ _ c.loop-left.left _ _ (omega arith) c.loop-left.invariant.0 c.loop-left.invariant.1 e.value (e.upper_bound c.loop-left.invariant.0)
