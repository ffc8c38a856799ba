-- `levels::find` answers the level that reaches the rank, or the highest that is counted.
-- Assumes nothing.
use native.Mathlib.Nat.{lt_of_lt_of_le}
use native.Mathlib.Omega.{arith}
use mathlib.Core.Path.{sym, ap, ◌∙◌}
use lib.Dec.{lit≤}
use lib.IntN.{pos}
use lib.ListN.{length}
use mir.Syntax.{w32}
use mir.Facts.{to_z_pos, to_z-of_z}
use Rattle.levels.specs.Levels.{count_of}
use Rattle.levels.proofs.Ranks.{ranked_found, ranked_none}
use Rattle.levels.proofs.finding.find.Goals as goal

pub returns-then-v-counts : goal.returns-then-v-counts
returns-then-v-counts c = let a = c.args in
    let e = c.level-v.ensures in
    let t = c.if-v-counts.true in
    let n = c.requires.few in
    to_z_pos w32 (lt_of_lt_of_le (omega arith) (lit≤ {m = 256} tt)) ∙ ap pos e
    ∙ sym (ranked_found (count_of a.counts.now) a.rank (length a.counts.now) (omega arith))

pub returns : goal.returns
returns c = let a = c.args in
    let e = c.level-v.ensures in
    let t = c.if-v-counts.false in
    to_z-of_z {w = w32} (record { sfits = c.highest.type_inv }) ∙ c.highest.ensures
    ∙ sym (ranked_none (count_of a.counts.now) a.rank (length a.counts.now) c.requires.ranked (omega arith))
