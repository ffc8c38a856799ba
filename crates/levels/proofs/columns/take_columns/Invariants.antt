-- `levels::take_columns` asks and moves column after column; at one that is not good, those before it are moved back.
-- Assumes nothing.
use Prim.Native.Nat.{ℕ, ◌<◌}
use lib.Dec.{T}
use Rattle.levels.specs.Levels.{column_good_at}
use Rattle.levels.proofs.Lines.{Columns}
use Rattle.levels.proofs.columns.take_columns.Given as goal

-- the first c columns were good, and are moved
abbrev pub invariant-loop-c : goal.invariant-loop-c
invariant-loop-c l = Columns l.width l.initial.counts l.off l.less l.on l.more l.c l.counts × ((k : ℕ) → k < l.c → T (column_good_at l.levels l.most l.initial.counts l.off l.less l.on l.more k))
