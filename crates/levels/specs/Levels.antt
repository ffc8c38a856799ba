-- Counts by level, and the level of a rank in them.
-- Assumes nothing.
use Rattle.std.specs.Prelude.{ℕ, zero, suc, ◌+◌, ◌-◌, ◌*◌, Bool, cond, ◌&&◌, List, leb, ltb, eqb, ℤ, pos, negsuc, get_or}
use Rattle.arith.specs.Sum.{sum}
use Rattle.arith.specs.All.{all}
use Rattle.arith.specs.First.{first_not}

-- ---- a column

-- the counts that stand in a list, by level
abbrev pub count_of : List ℕ → (v : ℕ) → ℕ
count_of counts v = get_or counts v 0

-- a sample x counts at its own level, as often as its row does: once, or not at all where the row is passed over
abbrev pub one : (times x v : ℕ) → ℕ
one times x v = cond (eqb x v) times 0

-- formula (6) of source 2 of docs/RULES.md: the count of level v when x has left and y has entered
unfoldable pub moved_count : (count : ℕ → ℕ) → (x less y more v : ℕ) → ℕ
moved_count count x less y more v = count v - one less x v + one more y v

-- question 19 of a column of n levels: x and y are levels, x is counted, and no count is above the most afterwards
unfoldable pub column_good : (n most : ℕ) → (count : ℕ → ℕ) → (x less y more : ℕ) → Bool
column_good n most count x less y more =
    ltb x n && (ltb y n && (leb less (count x) && all n (λ v. leb (moved_count count x less y more v) most)))

-- ---- the columns of a row, in a store that has the count of column c and level v at 256·c + v

abbrev pub count_at : (counts : List ℕ) → (c v : ℕ) → ℕ
count_at counts c v = get_or counts (c * 256 + v) 0

abbrev pub moved_count_at : (counts off : List ℕ) → (less : ℕ) → (on : List ℕ) → (more c v : ℕ) → ℕ
moved_count_at counts off less on more c v = moved_count (count_at counts c) (get_or off c 0) less (get_or on c 0) more v

abbrev pub column_good_at : (n most : ℕ) → (counts off : List ℕ) → (less : ℕ) → (on : List ℕ) → (more c : ℕ) → Bool
column_good_at n most counts off less on more c = column_good n most (count_at counts c) (get_or off c 0) less (get_or on c 0) more

-- ---- a window

-- formula (4): the count of level v when the counts of a column have left and those of another have entered
abbrev pub slid_count : (window off on : ℕ → ℕ) → (v : ℕ) → ℕ
slid_count window off on v = window v - off v + on v

-- formula (1): how many are counted up to level v
unfoldable pub up_to : (count : ℕ → ℕ) → (v : ℕ) → ℕ
up_to count v = sum (suc v) count

-- fewer than R are counted up to level v
abbrev pub below : (count : ℕ → ℕ) → (R v : ℕ) → Bool
below count R v = ltb (up_to count v) R

-- the highest of n levels that is counted, or -1
unfoldable pub highest : (n : ℕ) → (count : ℕ → ℕ) → ℤ
highest zero count = negsuc 0
highest (suc n) count = cond (eqb (count n) 0) (highest n count) (pos n)

-- the lowest of n levels such that at least R are counted up to it; if fewer are counted, the highest that is; -1 if none is
unfoldable pub ranked : (n R : ℕ) → (count : ℕ → ℕ) → ℤ
ranked n R count = cond (leb R (sum n count)) (pos (first_not n (below count R))) (highest n count)
