-- `levels::change` takes x off its level and puts y on its own: two places of the list, which is then the table of the moved counts.
-- Assumes nothing.
use Rattle.levels.proofs.Changes.{changed}
use Rattle.levels.proofs.columns.change.Goals as goal

pub returns : goal.returns
returns c = let a = c.args in
    rw (c.from-i.ensures, c.from-j.ensures) (changed a.col.now a.x a.less a.y a.more c.requires.off_level c.requires.on_level)
