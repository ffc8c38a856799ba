-- `histograms::next_window` slides the window: the column `columns` before the entering one leaves.
-- Assumes nothing.
use Rattle.histograms.proofs.Slides.{slide_off_long, slide_on_long, slide_counted, slide_room, slide_leaves}
use Rattle.histograms.proofs.windows.Band.next_window.Goals as goal

pub slide-requires : goal.slide-requires
slide-requires c = let s = c.args.self.span in
    record {
      off_long = slide_off_long s c.requires.0.span c.args.k c.requires.1 c.column-off.ensures c.column-on.ensures;
      on_long = slide_on_long s c.requires.0.span c.args.k c.requires.1 c.column-off.ensures c.column-on.ensures;
      counted = slide_counted s c.requires.0.span c.args.k c.requires.1 c.column-off.ensures c.column-on.ensures;
      room = slide_room s c.requires.0.span c.args.k c.requires.1 c.column-off.ensures c.column-on.ensures;
    }

pub returns : goal.returns
returns c = slide_leaves c.args.self.span c.requires.0.span c.args.k c.requires.1 c.column-off.ensures c.column-on.ensures c.slide.ensures
