-- What the functions on counts ask of their callers.
-- Assumes nothing.
use Rattle.std.specs.Prelude.{ℕ, ◌+◌, ◌*◌, ◌≤◌, ◌<◌, ◌≡◌, List, length, get_or}
use Rattle.arith.specs.Sum.{sum}
use Rattle.levels.specs.Levels.{count_of, count_at}

-- the columns of a row: their counts of 256 levels each, of which the first `levels` are asked; each row counts once or not at all
pub record TakeFits (width levels most counts off less on more : ℕ) : Type 0 where
  pub few : levels ≤ 256
  pub small : most ≤ 255
  pub counts_long : width * 256 ≤ counts
  pub off_long : width ≤ off
  pub on_long : width ≤ on
  pub less_most : less ≤ 1
  pub more_most : more ≤ 1

-- one column of n levels that changes: x and y are levels, x is counted, and the count of y has room
pub record ChangeFits (n : ℕ) (count : ℕ → ℕ) (x less y more : ℕ) : Type 0 where
  pub off_level : x < n
  pub on_level : y < n
  pub counted : less ≤ count x
  pub room : count y + more ≤ 65535

-- all columns of a row
pub record MoveFits (width : ℕ) (counts off : List ℕ) (less : ℕ) (on : List ℕ) (more : ℕ) : Type 0 where
  pub counts_long : width * 256 ≤ length counts
  pub off_long : width ≤ length off
  pub on_long : width ≤ length on
  pub each : (c : ℕ) → c < width → ChangeFits 256 (count_at counts c) (get_or off c 0) less (get_or on c 0) more

-- counts of which 16 add up within 16 bits
abbrev pub SmallCounts : List ℕ → Type 0
SmallCounts counts = (v : ℕ) → v < length counts → count_of counts v ≤ 4095

-- counts in which a rank is looked for
pub record FindFits (counts : List ℕ) (rank : ℕ) : Type 0 where
  pub few : length counts ≤ 256
  pub small : SmallCounts counts
  pub ranked : 1 ≤ rank

-- the levels before a block of 16 levels: their counts add up to less than the rank
pub record BlocksPassed (counts : List ℕ) (rank at s : ℕ) : Type 0 where
  pub in_list : at ≤ length counts
  pub is : s ≡ sum at (count_of counts)
  pub less : s < rank

-- and with the block they add up to the rank, where the block is a whole one
pub record BlocksEnd (counts : List ℕ) (rank at s : ℕ) : Type 0 where
  pub passed : BlocksPassed counts rank at s
  pub reached : at + 16 ≤ length counts → rank ≤ sum (at + 16) (count_of counts)

-- counts that are added to a sum
pub record PassedFits (counts : List ℕ) (before : ℕ) : Type 0 where
  pub few : length counts ≤ 256
  pub small : SmallCounts counts
  pub before_most : before ≤ 1048320
