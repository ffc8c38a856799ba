-- `histograms::each_window` does run after run, each of one pixel at least.
-- Assumes nothing.
use Rattle.std.proofs.Common.{◌-◌, ◌≤◌}
use Rattle.histograms.specs.Spans.{Reached}
use Rattle.histograms.proofs.windows.Band.each_window.Given as goal

abbrev pub invariant-loop-c : goal.invariant-loop-c
invariant-loop-c l = (l.c ≤ l.self.span.width) × Reached l.self.span l.self.counts.now l.initial.out l.initial.window l.c l.out l.window

abbrev pub decreases-loop-c : goal.decreases-loop-c
decreases-loop-c l = l.self.span.width - l.c
