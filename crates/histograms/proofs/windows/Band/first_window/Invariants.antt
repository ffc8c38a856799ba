-- `histograms::first_window` lets the columns enter up to the one that the first pixel's window lacks.
-- Assumes nothing.
use Rattle.std.proofs.Common.{◌≡◌, ◌++◌, length, drop}
use Rattle.arith.specs.Tab.{tab}
use Rattle.histograms.specs.Spans.{slid_to}
use Rattle.histograms.proofs.windows.Band.first_window.Given as goal

abbrev pub invariant-loop-k : goal.invariant-loop-k
invariant-loop-k l = (length l.window ≡ length l.initial.window) × (l.window ≡ tab l.self.span.levels (slid_to l.self.counts.now l.self.span l.k) ++ drop l.self.span.levels l.initial.window)
