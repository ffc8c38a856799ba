-- `histograms::run_windows` lets the next column enter and looks for the rank, pixel after pixel.
-- Assumes nothing.
use Rattle.std.proofs.Common.{◌+◌}
use Rattle.histograms.specs.Spans.{Carried}
use Rattle.histograms.proofs.windows.Band.run_windows.Given as goal

abbrev pub invariant-loop-i : goal.invariant-loop-i
invariant-loop-i l = Carried l.self.span l.self.counts.now l.r.from (l.r.from + l.i) l.initial.out l.initial.window l.out l.window
