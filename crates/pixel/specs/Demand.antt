-- Demand 3 of one place of a scan.
-- Assumes nothing.
use Rattle.std.specs.Prelude.{ℕ, ◌≡◌, List, [], ◌∷◌, pos}
use Rattle.arith.specs.Floor.{floor_div}
use Rattle.layout.specs.declared.Table.{Table}
use Rattle.layout.specs.Answers.{accepted}
use Rattle.rule.specs.Sums.{sample_at}
use Rattle.rule.specs.Pixels.{cut_value}
use Rattle.rule.specs.Accuracy.{Accuracy}
use Rattle.pixel.specs.Call.{pixel_answer}

-- the sums of every rectangle and the two values are as near to each other as the demand says, and the cut value is the number whose
-- division by 2^t the one-pixel call answers
pub record Demand3 (t : Table) (l : ℕ) (xs : List ℕ) (r c : ℕ) : Type 0 where
  pub accuracy : Accuracy t (sample_at l xs) (pos r) (pos c)
  pub answer : pixel_answer t l xs r c ≡ accepted (floor_div (cut_value t (sample_at l xs) (pos r) (pos c)) t.t ∷ [])
