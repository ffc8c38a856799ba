-- Which bytes stand where after a move to the start of a store.
-- Assumes nothing.
use Rattle.std.specs.Prelude.{ℕ, ◌-◌, ◌*◌, ◌/◌, min, List, ◌++◌, length, take, drop}

-- the places that rows of l take, of those that there are
unfoldable pub packed_count : (rows l places : ℕ) → ℕ
packed_count rows l places = min rows (places / l) * l

-- how many bytes stand from place `from` to `end`, of a store of this length
abbrev pub moved_count : (length from end : ℕ) → ℕ
moved_count length from end = min end length - from

-- the store with them at its start, and behind them what was there
unfoldable pub moved : (store : List ℕ) → (from end : ℕ) → List ℕ
moved store from end = take (moved_count (length store) from end) (drop from store) ++ drop (moved_count (length store) from end) store
