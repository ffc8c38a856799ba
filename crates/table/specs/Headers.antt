-- The header of a file, as the code holds it.
-- Assumes nothing.
use Rattle.std.specs.Prelude.{ℕ, List, get_or}
use Rattle.limits.specs.declared.header.Header.{Header}

-- the numbers of the header, which begins bs
abbrev pub header_of : List ℕ → Header
header_of bs = record { b = get_or bs 3 0; q1 = get_or bs 4 0; q2 = get_or bs 5 0; q3 = get_or bs 6 0; t = get_or bs 7 0; w = get_or bs 8 0 }
