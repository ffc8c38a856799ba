-- `levels::move_columns` changes column after column; each is lent as its part of the store and comes back changed.
-- Assumes nothing.
use Rattle.levels.proofs.Lines.{none_moved, next_fits, next_moved}
use Rattle.levels.proofs.columns.move_columns.Goals as goal

pub loop-c-init : goal.loop-c-init
loop-c-init c = none_moved _ _ _ _ _ _

pub change-requires : goal.change-requires
change-requires c = let t = c.loop-c-test.true in
    next_fits _ _ _ _ _ _ c.loop-c.invariant c.requires.counts_long t (c.requires.each c.loop-c.c t)

pub loop-c-preserved : goal.loop-c-preserved
loop-c-preserved c = next_moved _ _ _ _ _ _ c.loop-c.invariant c.requires.counts_long c.loop-c-test.true c.change.ensures
