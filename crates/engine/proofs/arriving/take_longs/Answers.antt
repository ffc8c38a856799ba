-- The local line at its start is zeros, and each value is at its bias.
use Rattle.std.proofs.Common.{arith, length}
use Rattle.arrival.specs.Arriving.{arrival}
use Rattle.engine.proofs.Biased.{summed_none}
use Rattle.engine.proofs.Starts.{padded_none}
use Rattle.engine.proofs.arriving.take_longs.Goals as goal

pub take-requires-clause-held : goal.take-requires-clause-held
take-requires-clause-held c =
    let a = c.args.arriving.now in summed_none (arrival a c.args.sums.now) 1024 a.width_most

pub take-requires-clause-padded : goal.take-requires-clause-padded
take-requires-clause-padded c = let a = c.args.arriving.now in let l = a.width_most in padded_none (length a.row.now) 1072 (omega arith)
