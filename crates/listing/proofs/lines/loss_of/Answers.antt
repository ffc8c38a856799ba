-- Within the limits the loss figure is answered.
-- Assumes nothing.
use Rattle.std.proofs.Common.{ℕ, ◌≡◌, ◌∙◌, refl, true, Result, Ok}
use Rattle.layout.specs.declared.asking.Refusal.{Refusal}
use Rattle.layout.specs.declared.Rect.{Rect}
use Rattle.layout.specs.declared.Table.{Table}
use Rattle.layout.specs.Measure.{loss_figure}
use Rattle.limits.specs.Figures.{figure_said, loss_of}
use Rattle.limits.specs.Limits.{bits_good, drops_good}
use Rattle.limits.proofs.Answers.{figure_injective}
use Rattle.listing.proofs.lines.loss_of.Goals as goal

-- within the limits the call answers the figure
figure_is : (t : Table) (r : Rect) (f : Result ℕ Refusal) → (bits_good t.b ≡ true) × (drops_good t.b t.q1 t.q2 t.q3 ≡ true)
    → figure_said f ≡ loss_of t r → f ≡ Ok (loss_figure t r)
unfolding loss_of
figure_is t r f h e = figure_injective f (Ok (loss_figure t r)) (e ∙ rw (h.0, h.1))

pub returns : goal.returns
returns c = let e = figure_is c.args.t.now c.args.r c.loss.result c.requires c.loss.ensures in c.unwrap_or.ensures ∙ rw e refl
