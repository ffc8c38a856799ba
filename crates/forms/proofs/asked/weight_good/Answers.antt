-- Only a rectangle has a weight.
-- Assumes nothing.
use Rattle.std.proofs.Common.{◌≡◌, not, true, false, eqb, sym, ap, ◌∙◌}
use Rattle.forms.specs.Forms.{weight_good, kind_of}
use Rattle.words.specs.Words.{words_of}
use Rattle.forms.proofs.Looks.{kind_weight}
use Rattle.forms.proofs.asked.weight_good.Goals as goal

pub returns-then-ne : goal.returns-then-ne
unfolding weight_good
returns-then-ne c =
    let e : eqb (kind_of (words_of c.args.line.now)) 4 ≡ false = ap (λ k. eqb k 4) (sym c.requires) ∙ kind_weight _ _ c.ne.ensures
    ∙ ap not c.if-ne.true in
    rw e c.if-ne.true

pub returns-else-ne : goal.returns-else-ne
unfolding weight_good
returns-else-ne c =
    let e : eqb (kind_of (words_of c.args.line.now)) 4 ≡ true = ap (λ k. eqb k 4) (sym c.requires) ∙ kind_weight _ _ c.ne.ensures
    ∙ ap not c.if-ne.false in
    rw e c.weight_fits.ensures
