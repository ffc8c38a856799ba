-- A table beside its stores, as a filter of the machine.
-- Assumes nothing.
use Rattle.std.specs.Prelude.{ℕ, ◌-◌, ◌*◌, ◌^◌, List, [], ◌∷◌, length}
use Rattle.arith.specs.Tab.{zeroed}
use Rattle.layout.specs.declared.Table.{Table}
use Rattle.layout.specs.Answers.{asks}
use Rattle.layout.specs.Measure.{delay_of}
use Rattle.limits.specs.Limits.{acceptable}
use Rattle.arrival.specs.Arrivals.{Arrival, arriving, stores_good, arrival_asks, samples_after, sums_after, output_after}
use Rattle.machine.specs.declared.State.{State}
use Rattle.machine.specs.declared.Arrival.{Arrival as Arriving}
use Rattle.machine.specs.Rules.{Rules}
use Rattle.scan.specs.declared.Scan.{Scan}
use Rattle.scan.specs.declared.stored.Stored.{Stored}

-- how far a scan is
abbrev pub state_of : Scan → State
state_of s = record { width = s.width; rows = s.rows; steps = s.steps; closed = s.closed }

-- the scan of a table that is so far
abbrev pub scan_at : Table → State → Scan
scan_at t s = record { table = t; width = s.width; rows = s.rows; steps = s.steps; closed = s.closed }

-- the same loans, with these samples and sums
abbrev pub with_stores : Stored → (samples sums : List ℕ) → Stored
with_stores f samples sums = record f { samples = record f.samples { now = samples }; sums = record f.sums { now = sums } }

-- what arrives
abbrev pub arrives : Stored → Arriving → (row : List ℕ) → Arrival
arrives f a row = arriving f.table a.width a.number row f.samples.now f.sums.now

abbrev pub table_rules : Rules Stored
table_rules = record {
  asks = λ f. asks 11 (acceptable f.table) ∷ [];
  delay = λ f. delay_of f.table;
  top = λ f. 2 ^ f.table.b - 1;
  holds = λ f l. stores_good l f.table.count (length f.samples.now) (length f.sums.now);
  cleared = λ f l. with_stores f (zeroed (32 * l) f.samples.now) (zeroed (f.table.count * l) f.sums.now);
  arrival_asks = λ f a row. arrival_asks (arrives f a row);
  filter_after = λ f a row. with_stores f (samples_after (arrives f a row)) (sums_after (arrives f a row));
  output_after = λ f a row out. output_after (arrives f a row) out;
}
