-- The figures of a rectangle and of a table.
-- Assumes nothing.
use Rattle.std.specs.Prelude.{ℕ, ◌+◌, ◌-◌, ◌*◌, ◌^◌, ◌-ℤ◌}
use Rattle.arith.specs.Part.{pos_part}
use Rattle.arith.specs.Log.{log2up}
use Rattle.arith.specs.Largest.{largest}
use Rattle.layout.specs.declared.Rect.{Rect}
use Rattle.layout.specs.declared.Table.{Table}
use Rattle.layout.specs.Contents.{rect}

-- M, the rows that a rectangle covers: lead row minus trail row, or none where the trail is not below the lead
unfoldable pub rows_of : Rect → ℕ
rows_of r = pos_part (r.leadrow -ℤ r.trailrow)

-- N, the columns
unfoldable pub cols_of : Rect → ℕ
cols_of r = pos_part (r.leadcol -ℤ r.trailcol)

-- the bits of a column sum before its cut, formula (6): b - q1 + ⟨log2 M⟩
unfoldable pub column_word : Table → Rect → ℕ
column_word t r = t.b - t.q1 + log2up (rows_of r)

-- the bits of a window sum before its cut, formula (7): b - q1 - q2 + ⟨log2 MN⟩, or 0 where that is negative
unfoldable pub window_word : Table → Rect → ℕ
window_word t r = t.b + log2up (rows_of r * cols_of r) - (t.q1 + t.q2)

-- the loss figure: M·N·(2^q1 - 1) + 2^q1·N·(2^q2 - 1) + 2^(q1+q2)·(2^q3 - 1)
unfoldable pub loss_figure : Table → Rect → ℕ
loss_figure t r =
    rows_of r * cols_of r * (2 ^ t.q1 - 1) + 2 ^ t.q1 * cols_of r * (2 ^ t.q2 - 1) + 2 ^ (t.q1 + t.q2) * (2 ^ t.q3 - 1)

-- D, the delay: the largest lead row, or 0 where none is positive
unfoldable pub delay_of : Table → ℕ
delay_of t = largest t.count (λ k. pos_part (rect t k).leadrow)
