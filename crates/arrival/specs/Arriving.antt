-- The arrival that a row comes to with column sums.
-- Assumes nothing.
use Rattle.std.specs.Prelude.{ℕ, List, length}
use Rattle.arrival.specs.Arrivals.{Arrival, arriving}
use Rattle.arrival.specs.declared.arriving.Arriving.{Arriving}

abbrev pub arrival : Arriving → (sums : List ℕ) → Arrival
arrival a sums = arriving a.table.now (length a.row.now) a.number a.row.now a.samples.now sums
