-- A window beside its stores, as a filter of the machine.
-- Assumes nothing.
use Rattle.std.specs.Prelude.{ℕ, ◌-◌, ◌*◌, ◌^◌, List, [], ◌∷◌, leb, length}
use Rattle.arith.specs.Tab.{zeroed}
use Rattle.layout.specs.Answers.{asks}
use Rattle.limits.specs.Limits.{bits_good, rect_good}
use Rattle.histograms.specs.Arrivals.{Counting, counting, delay_by, arrival_asks, samples_after, counts_after, output_after}
use Rattle.machine.specs.declared.State.{State}
use Rattle.machine.specs.declared.Arrival.{Arrival as Arriving}
use Rattle.machine.specs.Rules.{Rules}
use Rattle.rank.specs.declared.Window.{Window}
use Rattle.rank.specs.declared.RankScan.{RankScan}
use Rattle.rank.specs.declared.ranking.Ranking.{Ranking}
use Rattle.rank.specs.Calls.{rect_of, rank_good, stores_good}

-- how far a scan is
abbrev pub state_of : RankScan → State
state_of s = record { width = s.width; rows = s.rows; steps = s.steps; closed = s.closed }

-- the scan of a window that is so far
abbrev pub scan_at : Window → (b rank : ℕ) → State → RankScan
scan_at w b rank s = record { window = w; b = b; rank = rank; width = s.width; rows = s.rows; steps = s.steps; closed = s.closed }

-- the same loans, with these numbers in them
abbrev pub with_stores : Ranking → (samples counts windows : List ℕ) → Ranking
with_stores f samples counts windows =
    record f {
      samples = record f.samples { now = samples };
      counts = record f.counts { now = counts };
      windows = record f.windows { now = windows };
    }

-- what arrives
abbrev pub arrives : Ranking → Arriving → (row : List ℕ) → Counting
arrives f a row =
    counting (record { rect = rect_of f.window; b = f.b; rank = f.rank; width = a.width; number = a.number; given = a.given })
    row f.samples.now f.counts.now

abbrev pub window_rules : Rules Ranking
window_rules = record {
  asks = λ f. asks 3 (bits_good f.b) ∷ asks 23 (leb f.b 8) ∷ asks 8 (rect_good (rect_of f.window)) ∷ asks 22 (rank_good f.window f.rank) ∷ [];
  delay = λ f. delay_by (rect_of f.window);
  top = λ f. 2 ^ f.b - 1;
  holds = λ f l. stores_good l (length f.samples.now) (length f.counts.now) (length f.windows.now);
  cleared = λ f l. with_stores f (zeroed (32 * l) f.samples.now) (zeroed (256 * l) f.counts.now) (zeroed 256 f.windows.now);
  arrival_asks = λ f a row. arrival_asks (arrives f a row);
  filter_after = λ f a row. with_stores f (samples_after (arrives f a row)) (counts_after (arrives f a row)) (zeroed 256 f.windows.now);
  output_after = λ f a row out. output_after (arrives f a row) out;
}
