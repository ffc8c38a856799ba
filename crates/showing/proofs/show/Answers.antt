-- By what reading answers: nothing is put, or the text, or the text and the comment.
-- Assumes nothing.
use Rattle.std.proofs.Common.{rules, sym, ◌∙◌}
use Rattle.showing.proofs.Parts.{read, shows_refusal, shows_text, shows_remark}
use Rattle.showing.proofs.show.Goals as goal

pub returns-in_err-table : goal.returns-in_err-table
returns-in_err-table c = let h = shows_refusal _ c.args.out.now c.parse.ensures c.in_err-table.was in search (rules, h)

pub put_table-end-requires : goal.put_table-end-requires
put_table-end-requires c = let r = read _ c.parse.ensures c.in_ok-table.was in
    (r.few, search rules)

pub returns-then-value_good : goal.returns-then-value_good
returns-then-value_good c = let r = read _ c.parse.ensures c.in_ok-table.was in
    shows_text _ _ r (sym c.value_good.ensures ∙ c.if-value_good.true) c.put_table-end.ensures.put

pub returns : goal.returns
returns c = let r = read _ c.parse.ensures c.in_ok-table.was in
    shows_remark _ _ r (sym c.value_good.ensures ∙ c.if-value_good.false) c.put_table-end.ensures.put c.put_remark.ensures
