-- The window of a ranked filter around a place.
-- Assumes nothing.
use Rattle.std.specs.Prelude.{ℕ, ◌-◌, ◌/◌, cond, ◌&&◌, leb, pos, neg_ℤ}
use Rattle.filtering.specs.declared.Edges.{Edges}

-- n rows or columns: half of them, rounded down, reach ahead, and the others are the place itself and those behind it; no window
-- where n is not from 1 to 31
unfoldable pub centred_of : (n : ℕ) → Edges
centred_of n =
    cond (leb 1 n && leb n 31) (record { lead = pos (n / 2); trail = neg_ℤ (pos (n - n / 2)) }) (record { lead = pos 0; trail = pos 0 })
