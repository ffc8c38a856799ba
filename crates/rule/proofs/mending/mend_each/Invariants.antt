use Rattle.std.proofs.Common.{◌≡◌, ℕ, ◌<◌, get_or}
use Rattle.rule.specs.Mended.{mended_at}
use Rattle.rule.proofs.Mended.{before}
use Rattle.rule.proofs.mending.mend_each.Given as goal

-- what a dead sample takes is the last sample passed, mended
abbrev pub invariant-loop-k : goal.invariant-loop-k
invariant-loop-k l = record {
  done : (j : ℕ) → j < l.k → get_or l.line j 0 ≡ mended_at (λ i. get_or l.fn.row i 0) j;
  carried : l.left ≡ before (λ i. get_or l.fn.row i 0) l.k;
}
