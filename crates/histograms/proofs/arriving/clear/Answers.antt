-- Assumes nothing.
use Rattle.histograms.proofs.Zero.{filled_first}
use Rattle.histograms.proofs.arriving.clear.Goals as goal

pub returns : goal.returns
returns c = filled_first 256 c.args.windows.now c.requires (c.fill.ensures.after (λ y h. h))
