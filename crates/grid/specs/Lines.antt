-- The lines of the grid, as the code computes them: each entry of a line by its difference from the entry before it.
-- Assumes nothing.
use Rattle.std.specs.Prelude.{ℕ, suc, ◌+◌, ◌*◌, ◌≤◌, ◌<◌, min, ◌≡◌, cond, ◌&&◌, List, ltb, leb, length, get_or, ℤ, pos, ◌+ℤ◌, ◌*ℤ◌}
use Rattle.std.specs.Int.Signed.{le_z, lt_z}
use Rattle.arith.specs.Sum.{sum}
use Rattle.arith.specs.Diff.{Diff}
use Rattle.arith.specs.Part.{pos_part, neg_part}
use Rattle.layout.specs.declared.Rect.{Rect}
use Rattle.layout.specs.declared.Table.{Table}
use Rattle.layout.specs.Contents.{rect}
use Rattle.grid.specs.declared.parts.PartSums.{PartSums}
use Rattle.grid.specs.Grid.{offset, factor, grid_at}

-- 2^25: a difference is held raised by it
abbrev pub delta_bias : ℕ
delta_bias = 33554432

-- 2^15, the largest size of a weight, and 2^19, that of an entry of 16 rectangles
abbrev pub weight_most : ℕ
weight_most = 32768

abbrev pub entry_most : ℕ
entry_most = 524288

-- 31 times that, the largest sum of a line
abbrev pub line_most : ℕ
line_most = 16252928

-- the number of offsets of 31 that do not lie above an edge
abbrev pub place_above : (edge : ℤ) → ℕ
place_above edge = min (pos_part (edge +ℤ pos 16)) 31

-- an edge lies on the same side of all lines from a to end - 1
pub record SameSide (edge : ℤ) (a end : ℕ) : Type 0 where
  pub above : (c : ℕ) → a ≤ c → c < end → lt_z edge (offset c) ≡ lt_z edge (offset a)
  pub below : (c : ℕ) → a ≤ c → c < end → le_z (offset c) edge ≡ le_z (offset a) edge

-- lines a and c of a table's grid have the same entries
abbrev pub LinesAlike : Table → (a c : ℕ) → Type 0
LinesAlike t a c = (b : ℕ) → grid_at t.count (rect t) c b ≡ grid_at t.count (rect t) a b

-- p and n differ by at most m
pub record Near (m p n : ℕ) : Type 0 where
  pub least : n ≤ p + m
  pub most : p ≤ n + m

-- the differences of a line added up to place b: the entry of that place, raised by b + 1 times the bias
abbrev pub up_to : (deltas : List ℕ) → (b : ℕ) → ℕ
up_to deltas b = sum (suc b) (λ j. get_or deltas j 0)

-- a line's 32 differences, to each of which a weight may be added
pub record DeltasFit (xs : List ℕ) : Type 0 where
  pub long : length xs ≡ 32
  pub near : (b : ℕ) → b < 32 → Near entry_most (get_or xs b 0) delta_bias

-- the differences xs are ys once a weight, raised by 2^15, is added to the entries from `start` to `end` - 1
pub record Raised (start end weight : ℕ) (xs ys : List ℕ) : Type 0 where
  pub long : length ys ≡ 32
  pub near : (b : ℕ) → b < 32 → Near weight_most (get_or ys b 0) (get_or xs b 0)
  pub is : (b : ℕ) → up_to ys b + weight_most ≡ up_to xs b + cond (leb start b && ltb b end) weight weight_most

-- the differences xs of line a are ys once a rectangle is added
pub record Added (d : Rect) (a : ℕ) (xs ys : List ℕ) : Type 0 where
  pub long : length ys ≡ 32
  pub near : (b : ℕ) → b < 32 → Near weight_most (get_or ys b 0) (get_or xs b 0)
  pub is : (b : ℕ) → b < 31 → Diff (d.weight *ℤ pos (factor d a b)) (up_to ys b) (up_to xs b)
  pub close : (b : ℕ) → b < 31 → Near weight_most (up_to ys b) (up_to xs b)

-- the differences of line a, of the first k rectangles
pub record LineDeltas (k : ℕ) (f : ℕ → Rect) (a : ℕ) (xs : List ℕ) : Type 0 where
  pub long : length xs ≡ 32
  pub near : (b : ℕ) → b < 32 → Near (k * weight_most) (get_or xs b 0) delta_bias
  pub is : (b : ℕ) → b < 31 → Diff (grid_at k f a b) (up_to xs b) (suc b * delta_bias)
  pub close : (b : ℕ) → b < 31 → Near (k * weight_most) (up_to xs b) (suc b * delta_bias)

-- a line's differences, whose entries are small
pub record EntriesFit (xs : List ℕ) : Type 0 where
  pub long : length xs ≡ 32
  pub close : (b : ℕ) → b < 31 → Near entry_most (up_to xs b) (suc b * delta_bias)

-- one kind of parts of line a's entries, added up
abbrev pub line_sum : (part : ℤ → ℕ) → (n : ℕ) → (ℕ → Rect) → (a : ℕ) → ℕ
line_sum part n f a = sum 31 (λ b. part (grid_at n f a b))

-- the sums of line a
pub record LineSums (t : Table) (a : ℕ) (e : PartSums) : Type 0 where
  pub high : e.high ≡ line_sum pos_part t.count (rect t) a
  pub low : e.low ≡ line_sum neg_part t.count (rect t) a
  pub high_small : e.high ≤ line_most
  pub low_small : e.low ≤ line_most
