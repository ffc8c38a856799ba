-- The line is one that the pass asks for, and what it adds is the part of the rectangle.
use Rattle.std.proofs.Common.{◌∙◌}
use Rattle.arrival.specs.Arriving.{arrival}
use Rattle.arrival.proofs.Fitted.{line_fits, parted}
use Rattle.engine.proofs.Biased.{summed_room, summed_next}
use Rattle.engine.proofs.values.U64Value.add.Goals as goal

pub accumulate-requires-clause-line_fits : goal.accumulate-requires-clause-line_fits
accumulate-requires-clause-line_fits c =
    let a = c.args.arriving.now in
    let r = c.requires.ready in
    let l = r.1.0 in
    line_fits (arrival a r.0) c.args.k a.table_good c.requires.few c.args.line.now l.is l.good a.width_most l.padded

pub accumulate-requires-clause-room : goal.accumulate-requires-clause-room
accumulate-requires-clause-room c =
    let a = c.args.arriving.now in
    let r = c.requires.ready in
    summed_room (arrival a r.0) c.args.k a.table_good c.requires.few r.1.1

pub returns-clause-added : goal.returns-clause-added
returns-clause-added c =
    let a = c.args.arriving.now in
    λ sums l w. summed_next (arrival a sums) c.args.k a.table_good c.requires.few l.good w
    (c.accumulate.ensures.acc_after ∙ parted (arrival a sums) c.args.k a.table_good c.requires.few c.args.line.now l.is c.args.values.now)
