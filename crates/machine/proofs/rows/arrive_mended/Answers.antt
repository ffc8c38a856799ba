-- The line lent to the filter is the mended row, since the row has the width and the line has room.
use Rattle.std.proofs.Common.{rules, ◌≡◌, sym, ◌∙◌, ◌-◌, take, replicate, ℕ}
use lib.ListN.{length-replicate}
use native.Mathlib.Nat.{le_trans, le_of_eq}
use Rattle.rule.specs.Mended.{mended}
use Rattle.rule.proofs.Mended.{mended_line, length-mended}
use Rattle.machine.proofs.rows.arrive_mended.Goals as goal

pub returns : goal.returns
returns g c =
    let lent : take (c.args.arrival.width - 0) c.mend.new.line ≡ mended c.args.row.now = let f = c.requires in
    mended_line c.mend.new.line (replicate 1024 0) c.args.row.now c.args.arrival.width c.mend.ensures (length-mended c.args.row.now ∙ f.long)
    (le_trans f.width_most (le_of_eq (sym (length-replicate {A = ℕ} 1024 0)))) in
    search (rules, lent)
