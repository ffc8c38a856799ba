-- `grid::add_between`: the first of the two differences gains the weight and the second loses it.
-- Assumes nothing.
use Rattle.std.proofs.Common.{ℕ, ◌+◌, ◌-◌, arith, get_or}
use Rattle.grid.proofs.Deltas.{end_kept, raised}
use Rattle.grid.proofs.lines.add_between.Goals as goal

pub returns : goal.returns
returns c =
    let first : ℕ = get_or c.args.deltas.now c.args.start 0 + c.args.weight - 32768 in
    let a = c.args in
    let p = c.requires.start_lt_end in
    let m = c.requires.deltas_fit.near a.start (omega arith) in
    let n = c.requires.deltas_fit.near a.end (omega arith) in
    let k = end_kept a.deltas.now a.start a.end (first) p.0 in
    raised a.deltas.now a.start a.end a.weight _ _ c.requires.deltas_fit.long p.0 p.1 p.2 (omega arith) (rw k (omega arith))
