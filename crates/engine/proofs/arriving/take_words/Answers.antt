-- The local lines at their start are zeros, and so are the values.
use Rattle.std.proofs.Common.{ℕ, ◌+◌, le_refl, length}
use Rattle.std.proofs.lemmas.List.{take-replicate}
use Rattle.arrival.specs.Arriving.{arrival}
use Rattle.engine.proofs.Shares.{weighed_none}
use Rattle.engine.proofs.Starts.{padded_none}
use Rattle.engine.proofs.arriving.take_words.Goals as goal

pub take-requires-clause-held : goal.take-requires-clause-held
take-requires-clause-held g c =
    let a = c.args.arriving.now in
    rw (take-replicate {X = ℕ} (length a.row.now + 16) g.row.VALUES 0 c.requires.values_long.0) (weighed_none (arrival a c.args.sums.now) _ (le_refl _))

pub take-requires-clause-padded : goal.take-requires-clause-padded
take-requires-clause-padded g c = padded_none _ _ c.requires.line_long.0
