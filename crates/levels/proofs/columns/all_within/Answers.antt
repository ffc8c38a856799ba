-- `levels::all_within`: where the ORed counts are within the bound, only the level of what enters is left to ask.
-- Assumes nothing.
use native.Mathlib.Nat.{le_trans}
use Rattle.std.proofs.Common.{length, ap₂, ◌∙◌}
use lib.Dec.{leb}
use Rattle.levels.specs.Levels.{count_of, moved_count}
use Rattle.levels.proofs.Changes.{entering_decides}
use Rattle.levels.proofs.columns.all_within.Goals as goal

pub returns-then-gathered-most : goal.returns-then-gathered-most
unfolding moved_count
returns-then-gathered-most c = let a = c.args in
    ap₂ leb c.moved.ensures c.from.ensures
    ∙ entering_decides (length a.col.now) a.most (count_of a.col.now) a.x a.less a.y a.more (λ v h. le_trans (c.gathered.ensures v h) c.if-gathered-most.true) c.requires
