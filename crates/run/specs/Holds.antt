-- What the stores of a scan hold after its arrivals.
-- Assumes nothing.
use Rattle.std.specs.Prelude.{ℕ, suc, ◌+◌, ◌*◌, ◌≤◌, ◌<◌, ◌≡◌, true, List, pos, length, get_or}
use Rattle.std.proofs.Math.IntN.{sub_ℕ}
use Rattle.layout.specs.declared.Table.{Table}
use Rattle.layout.specs.Contents.{rect}
use Rattle.layout.specs.Measure.{delay_of}
use Rattle.limits.specs.Limits.{acceptable}
use Rattle.rule.specs.Questions.{width_good}
use Rattle.rule.specs.Sums.{Image, column_sum}
use Rattle.ring.specs.Ring.{Kept}
use Rattle.arrival.specs.Arrivals.{stores_good}

-- what starting accepts: a table that loading accepts, a width from 1 to 1,024, and stores long enough, whatever they hold
pub record Starts (t : Table) (l : ℕ) (samples sums : List ℕ) : Type 0 where
  pub table : acceptable t ≡ true
  pub width : width_good l ≡ true
  pub stores : stores_good l t.count (length samples) (length sums) ≡ true

-- the stores after a arrivals of x: the sample store holds the last 32 of them, the sum store holds the column sums of the last of them, row a - 1 - D, at k·L + c
pub record Stores (t : Table) (l : ℕ) (x : Image) (a : ℕ) (samples sums : List ℕ) : Type 0 where
  pub samples_long : 32 * l ≤ length samples
  pub sums_long : t.count * l ≤ length sums
  pub kept : Kept l x a samples
  pub carried :
      (k c : ℕ) → k < t.count → c < l → get_or sums (k * l + c) 0 ≡ column_sum t x (rect t k) (sub_ℕ a (suc (delay_of t))) (pos c)
