-- A call that is refused with 14.
-- Assumes nothing.
use Rattle.std.specs.Prelude.{◌≡◌, List, ℤ}
use Rattle.layout.specs.Answers.{Left}

-- what it leaves: it says so, and the state, its stores and the output are what they were
pub record Refuses14 {W : Type 0} (x : Left W) (w : W) (lent : List ℤ) : Type 0 where
  pub kind : x.said.kind ≡ 0
  pub number : x.said.number ≡ 14
  pub state : x.state ≡ w
  pub out : x.out ≡ lent
