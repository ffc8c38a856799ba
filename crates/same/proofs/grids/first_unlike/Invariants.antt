use Rattle.std.proofs.Common.{ℕ, ◌<◌, T}
use Rattle.same.specs.Same.{alike_at}
use Rattle.same.proofs.grids.first_unlike.Given as goal

-- the weights are equal at every offset passed
abbrev pub invariant-loop-k : goal.invariant-loop-k
invariant-loop-k l = (j : ℕ) → j < l.k → T (alike_at l.one l.other j)
