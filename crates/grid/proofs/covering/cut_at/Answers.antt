use Rattle.std.proofs.Common.{arith, to_z-of_z, w8}
use Rattle.grid.proofs.Offsets.{side_placed}
use Rattle.grid.proofs.covering.cut_at.Goals as goal

pub returns-then-place-end-clause-same_side : goal.returns-then-place-end-clause-same_side
returns-then-place-end-clause-same_side c =
    let p = rw (to_z-of_z {w = w8} c.ranges.edge) at c.place_above-place.ensures in
    side_placed c.args.edge c.args.a c.place_above-place.result c.if-a-place.true (omega arith) (λ h. omega arith)

pub returns-else-a-place-clause-same_side : goal.returns-else-a-place-clause-same_side
returns-else-a-place-clause-same_side c =
    let p = rw (to_z-of_z {w = w8} c.ranges.edge) at c.place_above-place.ensures in
    side_placed c.args.edge c.args.a c.args.end c.requires.0 c.requires.1 (λ h. omega arith)
