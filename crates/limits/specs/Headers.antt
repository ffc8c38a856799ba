-- The header of a table.
-- Assumes nothing.
use Rattle.layout.specs.declared.Table.{Table}
use Rattle.limits.specs.declared.header.Header.{Header}

-- the six numbers that a struct holds of it
abbrev pub header_of : Table → Header
header_of t = record { b = t.b; q1 = t.q1; q2 = t.q2; q3 = t.q3; t = t.t; w = t.w }
