-- `engine::roll_back_first` goes over the rectangles: each finds its own sums as they were, and rolls them back.
use Rattle.std.proofs.Common.{ℕ, ◌∙◌, length, zero-mul}
use Rattle.arith.proofs.Grids.{next_line}
use Rattle.arith.proofs.Passes.{grid_none}
use Rattle.arrival.specs.Arriving.{arrival}
use Rattle.arrival.specs.Arrivals.{Arrival}
use Rattle.arrival.specs.Rectangles.{rolled_back_sum}
use Rattle.arrival.proofs.Carries.{same_back}
use Rattle.engine.proofs.rows.roll_back_first.Goals as goal

pub loop-k-init : goal.loop-k-init
loop-k-init c =
    let a = c.args.arriving.now in
    rw zero-mul (grid_none (length a.row.now) (rolled_back_sum (arrival a c.args.sums.now)) c.args.sums.now)

pub loop-k-preserved : goal.loop-k-preserved
loop-k-preserved c =
    let a = c.args.arriving.now in
    let v : Arrival = arrival a c.args.sums.now in
    let f : ℕ → ℕ → ℕ = rolled_back_sum v in
    let i = c.loop-k.invariant in
    c.roll_back.ensures ∙ next_line c.loop-k.k (length a.row.now) f c.args.sums.now i (same_back v c.loop-k.k f i)
