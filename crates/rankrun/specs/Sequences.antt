-- Sequences of calls after starting: the engine of a ranked window, and the filter of its reference machine.
-- Assumes nothing.
use Rattle.std.specs.Prelude.{ℕ, List, pos, length}
use Rattle.layout.specs.Answers.{Left}
use Rattle.model.specs.Rows.{scanned}
use Rattle.model.specs.Machines.{Filter, Call, row_call, close_call, step_call}
use Rattle.histograms.specs.Arrivals.{delay_by}
use Rattle.rank.specs.Calls.{World, rect_of, row_of, close_of, step_of}
use Rattle.rankrun.specs.Rule.{Strip, shade_of}
use Rattle.rankrun.specs.Holds.{Setting}

-- the strip of these rows, each of them mended
abbrev pub strip_of : (l : ℕ) → (rows : List (List ℕ)) → Strip
strip_of l rows = record { height = length rows; width = l; image = scanned l rows }

-- the ranked window as a filter: D is its lead row, and a pixel is the shade at its place, of the rows so far
abbrev pub filter_of : Setting → Filter
filter_of q =
    record {
      bits = q.b;
      width = q.width;
      delay = delay_by (rect_of q.window);
      pixel = λ rows r c. shade_of (strip_of q.width rows) q.b (rect_of q.window) q.rank (pos r) (pos c);
    }

-- the engine: what the contracts of the calls say
unfoldable pub engine : World → Call → Left World
engine w (row_call row out) = row_of w row out
engine w close_call = close_of w
engine w (step_call out) = step_of w out
