-- Assumes nothing.
use Rattle.std.proofs.Common.{refl}
use Rattle.passes.proofs.Steps.{step_good}
use Rattle.passes.proofs.sums.move_sum.Goals as goal

pub returns-clause-bound_end_value : goal.returns-clause-bound_end_value
returns-clause-bound_end_value c =
    let f = c.ranges in
    rw (c.from.ensures, c.from-2.ensures) (step_good c.args.stored c.args.off c.args.on c.args.bound _ _ _ f.stored.fits f.off.fits f.on.fits c.requires refl refl refl)
