-- `histograms::count_row` finds the rows that leave and enter, and hands them to the columns.
-- Assumes nothing.
use Prim.Native.Nat.{◌≤◌}
use native.Mathlib.Omega.{arith}
use mir.Facts.{to_z-of_z}
use mir.Syntax.{w8}
use mir.Val.{SFits}
use Rattle.histograms.specs.Arrivals.{Counting, counting, edge_row}
use Rattle.histograms.specs.Edges.{EdgeOf, times_of, row_of}
use Rattle.histograms.proofs.Counts.{columns_count, counted, delay_most}
use borrow.Author.Rules.{rules}
use Rattle.histograms.proofs.arriving.count_row.Goals as goal

pub edge_of-off-requires : goal.edge_of-off-requires
edge_of-off-requires c =
    let late : c.delay-late.result ≤ 15 = let m = delay_most c.args.a.rect c.requires.rect in let e = c.delay-late.ensures in omega arith in
    (c.requires.number_most, late)

pub edge_of-on-requires : goal.edge_of-on-requires
edge_of-on-requires c =
    let late : c.delay-late.result ≤ 15 = let m = delay_most c.args.a.rect c.requires.rect in let e = c.delay-late.ensures in omega arith in
    (c.requires.number_most, late)

pub count_columns-requires : goal.count_columns-requires
unfolding edge_row
count_columns-requires c =
    let counts_of : Counting = counting c.args.a c.args.row.now c.args.samples.now c.args.counts.now in
    let off-edge : EdgeOf c.args.a.given (edge_row c.args.a c.args.a.rect.trailrow) (times_of c.edge_of-off.result) (row_of c.edge_of-off.result) = let f : SFits w8 c.args.a.rect.trailrow = search rules in
    rw (c.delay-late.ensures, to_z-of_z f) at c.edge_of-off.ensures in
    let on_edge : EdgeOf c.args.a.given (edge_row c.args.a c.args.a.rect.leadrow) (times_of c.edge_of-on.result) (row_of c.edge_of-on.result) = let f : SFits w8 c.args.a.rect.leadrow = search rules in
    rw (c.delay-late.ensures, to_z-of_z f) at c.edge_of-on.ensures in
    rw (c.times.ensures, c.times-2.ensures, c.edge_row-leaving.ensures, c.edge_row-entering.ensures, c.requires.long) (columns_count (counts_of) (off-edge) (on_edge) c.requires)

pub returns : goal.returns
unfolding edge_row
returns c =
    let counts_of : Counting = counting c.args.a c.args.row.now c.args.samples.now c.args.counts.now in
    let off-edge : EdgeOf c.args.a.given (edge_row c.args.a c.args.a.rect.trailrow) (times_of c.edge_of-off.result) (row_of c.edge_of-off.result) = let f : SFits w8 c.args.a.rect.trailrow = search rules in
    rw (c.delay-late.ensures, to_z-of_z f) at c.edge_of-off.ensures in
    let on_edge : EdgeOf c.args.a.given (edge_row c.args.a c.args.a.rect.leadrow) (times_of c.edge_of-on.result) (row_of c.edge_of-on.result) = let f : SFits w8 c.args.a.rect.leadrow = search rules in
    rw (c.delay-late.ensures, to_z-of_z f) at c.edge_of-on.ensures in
    counted (counts_of) (off-edge) (on_edge) (rw (c.times.ensures, c.times-2.ensures, c.edge_row-leaving.ensures, c.edge_row-entering.ensures, c.requires.long) at c.count_columns.ensures)
