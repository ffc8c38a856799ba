-- `histograms::write_row` is the first window, then the row's windows one after the other.
-- Assumes nothing.
use Rattle.histograms.proofs.Slides.{holds_next}
use Rattle.histograms.proofs.windows.Band.write_row.Goals as goal

pub each_window-requires : goal.each_window-requires
each_window-requires c = (c.requires.0, holds_next c.args.self.span c.args.self.span.ahead c.args.window.now c.requires.1.long c.first_window.ensures, c.requires.2)
