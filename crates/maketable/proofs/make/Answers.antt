-- What was written is within the page.
-- Assumes nothing.
use Rattle.std.proofs.Common.{sym, ap, ◌∙◌}
use Rattle.std.proofs.lemmas.List.{length-take-le}
use Rattle.layout.specs.Answers.{wrote}
use Rattle.making.specs.Errors.{made_said}
use Rattle.making.proofs.Written.{made_within_out}
use Rattle.maketable.proofs.make.Goals as goal

pub slice_bounds-page-end : goal.slice_bounds-page-end
slice_bounds-page-end g c = let e = ap (λ r. wrote (made_said r) c.make.new.out) (sym c.in-Ok.is) in
    made_within_out _ _ (e ∙ c.make.ensures)

pub slice_bounds-put-end : goal.slice_bounds-put-end
slice_bounds-put-end g c = let e = ap (λ r. wrote (made_said r) c.make.new.out) (sym c.in-Ok.is) in
    sym (length-take-le _ _ (made_within_out _ _ (e ∙ c.make.ensures)))
