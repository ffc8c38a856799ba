-- `levels::slide` is a pass over the levels of the window.
-- Assumes nothing.
use Rattle.std.proofs.Common.{arith, sym, ◌∙◌}
use Rattle.arith.proofs.Tabs.{tab-get_or, tab_cong}
use Rattle.levels.proofs.sliding.slide.Goals as goal

pub returns : goal.returns
returns c = sym (tab-get_or _ _ 0 (omega arith)) ∙ tab_cong _ (λ k below. c.loop-v.invariant.done k (omega arith))
