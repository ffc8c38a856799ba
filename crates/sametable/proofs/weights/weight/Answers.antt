-- `sametable::weight`: the difference of an entry's two parts, which fits 32 bits.
-- Assumes nothing.
use native.Mathlib.Omega.{arith}
use mathlib.Core.Path.{ap₂, ◌∙◌}
use mir.Facts.{to_z-of_z}
use Rattle.arith.proofs.Differences.{sub_value}
use Rattle.arith.proofs.Ints.{diff_sub, diff_eq, diff_size}
use Rattle.same.specs.Same.{weight_at}
use Rattle.sametable.proofs.weights.weight.Goals as goal

pub overflow_cast-result-3 : goal.overflow_cast-result-3
overflow_cast-result-3 c = let m = c.entry-e.ensures.high_le_entry_most in
    rw (sub_value c.entry-e.result.high c.entry-e.result.low (omega arith) (omega arith))
    (record { sfits = diff_size 2147483648 (diff_sub c.entry-e.result.high c.entry-e.result.low) (omega arith) (omega arith) })

pub returns : goal.returns
returns c = let m = c.entry-e.ensures.high_le_entry_most in
    let t = c.args.t.now in
    let row = rw (to_z-of_z c.ranges.row) at c.place.ensures.0 in
    let col = rw (to_z-of_z c.ranges.col) at c.place-2.ensures.0 in
    to_z-of_z (overflow_cast-result-3 c)
    ∙ sub_value c.entry-e.result.high c.entry-e.result.low (omega arith) (omega arith)
    ∙ diff_eq (diff_sub c.entry-e.result.high c.entry-e.result.low) c.entry-e.ensures.diff (omega arith)
    ∙ ap₂ (weight_at t) row col
