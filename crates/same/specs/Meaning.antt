-- What it means that two tables do the same, or do not.
-- Assumes nothing.
use Rattle.std.specs.Prelude.{ℕ, ◌-◌, ◌*◌, ◌/◌, ◌%◌, ◌+◌, ◌^◌, ◌<◌, ◌≡◌, true, List, [], ◌∷◌, ◌↔◌, ◌≢◌, ℤ, pos, ◌*ℤ◌, length}
use Rattle.arith.specs.All.{all}
use Rattle.layout.specs.declared.Table.{Table}
use Rattle.layout.specs.Answers.{accepted}
use Rattle.grid.specs.Grid.{offset}
use Rattle.limits.specs.Limits.{acceptable}
use Rattle.rule.specs.Questions.{sample_good}
use Rattle.rule.specs.Sums.{Image, sample_at}
use Rattle.rule.specs.Pixels.{cut_value, pixel_of}
use Rattle.pixel.specs.Call.{pixel_answer}
use Rattle.same.specs.Same.{heads_alike, neither_drops, weight_at, spot, same_of}

-- two tables that questions 11, 24 and 25 accept
pub record Comparable (t u : Table) : Type 0 where
  pub one : acceptable t ≡ true
  pub other : acceptable u ≡ true
  pub heads : heads_alike t u ≡ true
  pub drops : neither_drops t u ≡ true

-- equal weights at all 31 by 31 offsets
abbrev pub SameWeights : (t u : Table) → Type 0
SameWeights t u = (a b : ℕ) → a < 31 → b < 31 → weight_at t a b ≡ weight_at u a b

-- equal values on every scan, at every width and place
abbrev pub SameValues : (t u : Table) → Type 0
SameValues t u = (l : ℕ) (xs : List ℕ) (r c : ℤ) → cut_value t (sample_at l xs) r c ≡ cut_value u (sample_at l xs) r c

-- on every image
abbrev pub SameOnImages : (t u : Table) → Type 0
SameOnImages t u = (x : Image) (r c : ℤ) → cut_value t x r c ≡ cut_value u x r c

-- at the centre of every scan of 31 by 31 samples that question 18 accepts
abbrev pub SameAtCentres : (t u : Table) → Type 0
SameAtCentres t u =
    (xs : List ℕ) → length xs ≡ 31 * 31 → all (length xs) (sample_good (2 ^ t.b - 1) xs) ≡ true
    → cut_value t (sample_at 31 xs) (pos 15) (pos 15) ≡ cut_value u (sample_at 31 xs) (pos 15) (pos 15)

-- M106-2: the values are equal exactly when the weights are, and exactly then the call answers same
pub record Exactly (t u : Table) (scan : List ℕ) : Type 0 where
  pub values : SameValues t u ↔ SameWeights t u
  pub answer : ((same_of t u scan).said ≡ accepted []) ↔ SameWeights t u
  -- equal weights suffice for every image, and scans of 31 by 31 samples for equal weights
  pub images : SameWeights t u → SameOnImages t u
  pub centres : SameAtCentres t u → SameWeights t u

-- M106-3: what a scan of 31 by 31 samples shows of a table at row a and column b: the one-pixel call takes it, and the value at its
-- centre is 2^b - 1 times the weight there
pub record Shows (t : Table) (scan : List ℕ) (a b : ℕ) : Type 0 where
  pub taken : pixel_answer t 31 scan 15 15 ≡ accepted (pixel_of t (sample_at 31 scan) (pos 15) (pos 15) ∷ [])
  pub value : cut_value t (sample_at 31 scan) (pos 15) (pos 15) ≡ weight_at t a b *ℤ pos (2 ^ t.b - 1)

-- two tables told apart by offset (row, col) and the scan that is 2^b - 1 there and 0 elsewhere
pub record ToldApart (t u : Table) (row col : ℤ) (scan : List ℕ) : Type 0 where
  pub a : ℕ
  pub b : ℕ
  pub a_less : a < 31
  pub b_less : b < 31
  pub row_is : row ≡ offset a
  pub col_is : col ≡ offset b
  pub scan_is : scan ≡ spot (2 ^ t.b - 1) a b
  -- the offset is the first: top row first, left to right
  pub before : (k : ℕ) → k < a * 31 + b → weight_at t (k / 31) (k % 31) ≡ weight_at u (k / 31) (k % 31)
  pub unlike : weight_at t a b ≢ weight_at u a b
  pub one : Shows t scan a b
  pub other : Shows u scan a b
  pub differ : cut_value t (sample_at 31 scan) (pos 15) (pos 15) ≢ cut_value u (sample_at 31 scan) (pos 15) (pos 15)
