-- Each count by itself: what the offsets passed have added to it.
-- Assumes nothing.
use Rattle.std.proofs.Common.{ℕ, arith, refl}
use Rattle.std.proofs.lemmas.Int.{ints}
use Rattle.std.proofs.lemmas.List.{get_or-replicate}
use Rattle.differential.proofs.ranks.count_window.Goals as goal

pub loop-o-init : goal.loop-o-init
loop-o-init c =
    (grind (arith, ints), grind (arith, ints), refl, λ i h. omega (arith, ints, get_or-replicate {A = ℕ} 256 i 0 0 h))

pub count_row-requires : goal.count_row-requires
count_row-requires c = λ i h. grind (arith, ints, c.loop-o.invariant.3 i h)

pub loop-o-preserved : goal.loop-o-preserved
loop-o-preserved c = (
  grind (arith, ints),
  grind (arith, ints),
  omega arith,
  λ i h. omega (arith, ints, c.count_row.ensures i h, c.loop-o.invariant.3 i (omega arith)),
)

pub returns : goal.returns
returns c = λ i h. grind (arith, ints, c.loop-o.invariant.3 i h)

pub returns-2 : goal.returns-2
returns-2 c = λ i h. grind (arith, ints, c.count_row.ensures i h, c.loop-o.invariant.3 i (omega arith))
