-- `engine::roll_back_first` goes over the rectangles: each finds its own sums as they were, and rolls them back.
use Rattle.std.proofs.Common.{◌≡◌, ◌++◌, ◌*◌, length, drop}
use Rattle.arith.specs.Tab.{grid}
use Rattle.arrival.specs.Arriving.{arrival}
use Rattle.arrival.specs.Rectangles.{rolled_back_sum}
use Rattle.engine.proofs.rows.roll_back_first.Given as goal

abbrev pub invariant-loop-k : goal.invariant-loop-k
invariant-loop-k l =
    l.sums ≡ grid l.k (length l.arriving.row.now) (rolled_back_sum (arrival l.arriving l.initial.sums)) ++ drop (l.k * length l.arriving.row.now) l.initial.sums
