-- The line is one that the pass asks for, and what it adds is the share of the rectangle.
use Rattle.std.proofs.Common.{◌∙◌}
use Rattle.arrival.specs.Arriving.{arrival}
use Rattle.arrival.proofs.Fitted.{line_fits, shared}
use Rattle.engine.proofs.Shares.{weighed_next}
use Rattle.engine.proofs.values.U32Value.add.Goals as goal

pub weigh-requires-clause-line_fits : goal.weigh-requires-clause-line_fits
weigh-requires-clause-line_fits c =
    let a = c.args.arriving.now in
    let r = c.requires.ready in
    let l = r.1.0 in
    line_fits (arrival a r.0) c.args.k a.table_good c.requires.few c.args.line.now l.is l.good a.width_most l.padded

pub weigh-requires-clause-acc_long : goal.weigh-requires-clause-acc_long
weigh-requires-clause-acc_long c = c.requires.ready.1.1.long

pub returns-clause-added : goal.returns-clause-added
returns-clause-added c =
    let a = c.args.arriving.now in
    λ sums l w. weighed_next (arrival a sums) c.args.k w
    (c.weigh.ensures.acc_after ∙ shared (arrival a sums) c.args.k a.table_good c.requires.few c.args.line.now l.is c.args.values.now)
