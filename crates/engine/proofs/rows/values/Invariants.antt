-- `engine::values` goes over the rectangles: each finds its own sums as they were, so its answer and its part are those of the
-- arrival, and the loop stops at the first that fails.
use Rattle.std.proofs.Common.{ℕ, ◌≡◌, ◌<◌, ◌*◌, ◌++◌, Bool, T, length, drop}
use Rattle.arith.specs.All.{all}
use Rattle.arith.specs.Tab.{grid}
use Rattle.arrival.specs.Arriving.{arrival}
use Rattle.arrival.specs.Arrivals.{Arrival, sum_good}
use Rattle.arrival.specs.Rectangles.{updated_sum, ZeroPadded}
use Rattle.engine.proofs.rows.values.Given as goal

-- question 19 of rectangle j
abbrev pub passes : Arrival → ℕ → Bool
passes v j = all v.width (sum_good v j)

-- the first k rectangles are done
abbrev pub invariant-loop-k : goal.invariant-loop-k
invariant-loop-k g l = record {
  good : (j : ℕ) → j < l.k → T (passes (arrival l.arriving l.initial.sums) j);
  held : g.V.Value.held (arrival l.arriving l.initial.sums) l.k l.acc;
  padded : ZeroPadded (length l.arriving.row.now) l.line;
  updated : l.sums ≡ grid l.k (length l.arriving.row.now) (updated_sum (arrival l.arriving l.initial.sums)) ++ drop (l.k * length l.arriving.row.now) l.initial.sums;
}
