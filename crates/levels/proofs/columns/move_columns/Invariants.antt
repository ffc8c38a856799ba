-- `levels::move_columns` changes column after column; each is lent as its part of the store and comes back changed.
-- Assumes nothing.
use Rattle.levels.proofs.Lines.{Columns}
use Rattle.levels.proofs.columns.move_columns.Given as goal

abbrev pub invariant-loop-c : goal.invariant-loop-c
invariant-loop-c l = Columns l.width l.initial.counts l.off l.less l.on l.more l.c l.counts
