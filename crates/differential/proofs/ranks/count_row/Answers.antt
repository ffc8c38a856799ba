-- Each count by itself: what the offsets passed have added to it.
-- Assumes nothing.
use Rattle.std.proofs.Common.{arith}
use Rattle.std.proofs.lemmas.Int.{ints}
use Rattle.differential.proofs.ranks.count_row.Goals as goal

pub count_place-requires : goal.count_place-requires
count_place-requires c = λ i h. grind (arith, ints, c.loop-o.invariant.3 i h, c.requires i (omega arith))

pub loop-o-preserved : goal.loop-o-preserved
loop-o-preserved c = (
  grind (arith, ints),
  grind (arith, ints),
  omega arith,
  λ i h. omega (arith, ints, c.count_place.ensures i h, c.loop-o.invariant.3 i (omega arith)),
)

pub returns : goal.returns
returns c = λ i h. grind (arith, ints, c.loop-o.invariant.3 i h)

pub returns-2 : goal.returns-2
returns-2 c = λ i h. grind (arith, ints, c.count_place.ensures i h, c.loop-o.invariant.3 i (omega arith))
