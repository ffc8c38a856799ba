-- `histograms::first_window` lets the columns enter up to the one that the first pixel's window lacks.
-- Assumes nothing.
use mathlib.Core.Path.{refl}
use Rattle.histograms.proofs.Slides.{holds_list, holds_next}
use Rattle.histograms.proofs.windows.Band.first_window.Goals as goal

pub loop-k-init : goal.loop-k-init
loop-k-init c = (refl, holds_list c.args.self.span 0 c.requires.1)

pub next_window-requires : goal.next_window-requires
next_window-requires c = (c.requires.0, holds_next c.args.self.span c.loop-k.k c.args.window.now c.requires.1.long c.loop-k.invariant.1)
