-- What was put is within the page.
-- Assumes nothing.
use Rattle.std.proofs.Common.{sym, ap, ◌∙◌}
use Rattle.std.proofs.lemmas.List.{length-take-le}
use Rattle.layout.specs.Answers.{wrote}
use Rattle.showing.specs.Showing.{shown_said}
use Rattle.showing.proofs.Answers.{shown_within}
use Rattle.showtable.proofs.show.Goals as goal

pub slice_bounds-page-end : goal.slice_bounds-page-end
slice_bounds-page-end g c = let e = ap (λ r. wrote (shown_said r) c.show.new.out) (sym c.in-Ok.is) in
    shown_within _ _ (e ∙ c.show.ensures)

pub slice_bounds-put-end : goal.slice_bounds-put-end
slice_bounds-put-end g c = let e = ap (λ r. wrote (shown_said r) c.show.new.out) (sym c.in-Ok.is) in
    sym (length-take-le _ _ (shown_within _ _ (e ∙ c.show.ensures)))
