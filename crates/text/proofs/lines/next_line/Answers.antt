-- The place past the line feed, or the end of the text where there is none.
-- Assumes nothing.
use native.Mathlib.Omega.{arith}
use Rattle.text.proofs.Feeds.{after_feed, at_end_lem}
use Rattle.text.proofs.lines.next_line.Goals as goal

pub returns-then-end-text-clause-text_value : goal.returns-then-end-text-clause-text_value
returns-then-end-text-clause-text_value c =
    let e = c.line_end-end.ensures in
    after_feed _ _ _ e.value

pub returns-else-end-text-clause-text_value : goal.returns-else-end-text-clause-text_value
returns-else-end-text-clause-text_value c =
    let e = c.line_end-end.ensures in
    at_end_lem _ _ _ e.value (omega arith)
