use Rattle.std.proofs.Common.{◌∙◌, sym, ap, ◌++◌, arith, drop, take}
use Rattle.rule.proofs.Mended.{mended_clean, mended_places}
use Rattle.rule.proofs.mending.mend.Goals as goal

pub returns-then-largest-lt-DEAD : goal.returns-then-largest-lt-DEAD
returns-then-largest-lt-DEAD c =
    let n = c.min-n.result in
    let row = take n c.args.row.now in
    let line = c.args.line.now in
    let clean = mended_clean row (λ k h e. let x = c.largest.ensures k h in omega arith) in
    ap (λ xs. xs ++ drop n line) (c.copy_from_slice.ensures.after ∙ sym clean) ∙ mended_places line c.args.row.now n c.min-n.ensures

pub returns-else-largest-lt-DEAD : goal.returns-else-largest-lt-DEAD
returns-else-largest-lt-DEAD c =
    let n = c.min-n.result in
    let line = c.args.line.now in
    ap (λ xs. xs ++ drop n line) c.mend_each.ensures ∙ mended_places line c.args.row.now n c.min-n.ensures
