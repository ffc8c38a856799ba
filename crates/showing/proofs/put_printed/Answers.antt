-- The text of the slots, with or without the comment.
-- Assumes nothing.
use Rattle.std.proofs.Common.{◌++◌, refl, sym, ap, subst, ◌∙◌, length}
use Rattle.text.specs.Text.{Put}
use Rattle.text.proofs.Puts.{put_then}
use Rattle.showing.specs.Showing.{text_of, remark}
use Rattle.showing.proofs.Written.{contents_told, without_remark, remark_behind}
use Rattle.showing.proofs.put_printed.Goals as goal

pub returns-then-value_good : goal.returns-then-value_good
returns-then-value_good c = let t = c.args.whole in
    let e = contents_told t c.rects.result.now (length c.rects.result.now) c.rects.ensures.items refl in
    subst (λ s. Put c.args.out.now 0 s c.put_table-past.new.out c.put_table-past.result)
    (ap text_of e ∙ without_remark t (sym c.value_good.ensures ∙ c.if-value_good.true)) c.put_table-past.ensures.put

pub returns : goal.returns
returns c = let t = c.args.whole in
    let e = contents_told t c.rects.result.now (length c.rects.result.now) c.rects.ensures.items refl in
    subst (λ s. Put c.args.out.now 0 s c.put_remark.new.out c.put_remark.result)
    (ap (λ d. text_of d ++ remark) e ∙ remark_behind t (sym c.value_good.ensures ∙ c.if-value_good.false))
    (put_then c.put_table-past.ensures.put c.put_remark.ensures)
