-- `levels::highest` is the last level that is counted.
-- Assumes nothing.
use native.Mathlib.Nat.{lt_of_lt_of_le}
use Rattle.std.proofs.Common.{sym, ◌∙◌, arith, w32, lit≤}
use mir.Facts.{to_z_pos}
use Rattle.levels.specs.Levels.{count_of}
use Rattle.levels.proofs.Ranks.{highest_none, highest_is}
use Rattle.levels.proofs.finding.highest.Goals as goal

pub returns-in-Some : goal.returns-in-Some
returns-in-Some c = let h = c.in-Some.ensures in
    let n = c.requires in
    let v = h.0 in
    to_z_pos w32 (lt_of_lt_of_le (omega arith) (lit≤ {m = 256} tt)) ∙ sym (highest_is _ c.in-Some.v (count_of c.args.counts.now) h.0 h.1.0 h.1.1)

pub returns-in-None : goal.returns-in-None
returns-in-None c = sym (highest_none _ (count_of c.args.counts.now) c.in-None.ensures)
