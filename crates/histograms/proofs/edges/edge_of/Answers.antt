-- `histograms::edge_of` tells the three cases of row arrival - delay + edge: below 0, past the rows given, or one of them.
-- Assumes nothing.
use Rattle.std.proofs.Common.{to_z-of_z, w8, w64, SFits, rules}
use Rattle.histograms.proofs.Edge.{edge_below, row_is, edge_closing, edge_given}
use Rattle.histograms.proofs.edges.edge_of.Goals as goal

pub returns-in_err-row : goal.returns-in_err-row
returns-in_err-row c =
    let f : SFits w64 c.reach.result = record { sfits = c.reach.type_inv } in
    let g : SFits w8 c.args.edge = search rules in
    let e = rw (to_z-of_z g) at c.reach.ensures in
    let h = rw (to_z-of_z f) at c.try_from.ensures in
    rw c.from_residual.ensures (rw e at (edge_below c.args.given c.reach.result c.try_from.result h f.sfits c.in_err-row.ensures.value))

pub returns-then-given-row : goal.returns-then-given-row
returns-then-given-row c =
    let f : SFits w64 c.reach.result = record { sfits = c.reach.type_inv } in
    let g : SFits w8 c.args.edge = search rules in
    let e = rw (to_z-of_z g) at c.reach.ensures in
    let h = rw (to_z-of_z f) at c.try_from.ensures in
    rw e at (edge_closing c.args.given c.in_ok-row.row (row_is c.args.given c.reach.result c.try_from.result h c.in_ok-row.row c.in_ok-row.ensures.value) c.if-given-row.true)

pub returns : goal.returns
returns c =
    let f : SFits w64 c.reach.result = record { sfits = c.reach.type_inv } in
    let g : SFits w8 c.args.edge = search rules in
    let e = rw (to_z-of_z g) at c.reach.ensures in
    let h = rw (to_z-of_z f) at c.try_from.ensures in
    rw e at (edge_given c.args.given c.in_ok-row.row (row_is c.args.given c.reach.result c.try_from.result h c.in_ok-row.row c.in_ok-row.ensures.value) c.if-given-row.false)
