-- The words of the sums that the engine carries.
-- Assumes nothing.
use Rattle.std.specs.Prelude.{ℕ, suc, ◌<◌, ◌≡◌, pos}
use Rattle.std.proofs.Math.IntN.{sub_ℕ}
use Rattle.layout.specs.Contents.{rect}
use Rattle.layout.specs.Measure.{delay_of}
use Rattle.rule.specs.Sums.{Image}
use Rattle.rule.specs.Steps.{column_less, column_next, StepWords}
use Rattle.arrival.specs.Arrivals.{Arrival, less_sum, new_sum}

-- at an arrival the stored sums move from row a - 1 - D of the image to row a - D by the two defined steps, and every column and window sum of the image fits
-- its word after either step
pub record CarriedWords (x : Image) (v : Arrival) : Type 0 where
  pub less_is :
      (k c : ℕ) → k < v.table.count → c < v.width
      → less_sum v k c ≡ column_less v.table x (rect v.table k) (sub_ℕ v.number (suc (delay_of v.table))) (pos c)
  pub next_is :
      (k c : ℕ) → k < v.table.count → c < v.width
      → new_sum v k c ≡ column_next v.table x (rect v.table k) (sub_ℕ v.number (suc (delay_of v.table))) (pos c)
  pub words : (k : ℕ) → k < v.table.count → StepWords v.table x (rect v.table k)
