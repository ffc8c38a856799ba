-- A number that is held as 10^18 where it is larger shows the same choices, and where none is given all are shown.
-- Assumes nothing.
use Rattle.std.proofs.Common.{ℕ, ◌≤◌, min, arith, ◌≡◌, refl, ap₂, true, ◌&&◌, leb, leb→le, le→leb, le-leb, Option, Some, None}
use Rattle.figures.specs.declared.Figures.{Figures}
use Rattle.arith.proofs.Bools.{bool_eq}
use Rattle.layout.specs.declared.Table.{Table}
use Rattle.figures.specs.Measured.{figures_of}
use Rattle.figures.proofs.Sizes.{figure_most, figures_most}
use Rattle.choicetext.specs.Lines.{within_most}
use Rattle.choicetext.specs.Numbers.{number_most}

capped : (n m : ℕ) → n ≤ figure_most → leb n (min number_most m) ≡ leb n m
capped n m h = bool_eq (leb n (min number_most m)) (leb n m) (λ t. omega (arith, leb→le, le→leb)) (λ t. omega (arith, leb→le, le→leb))

-- `most_exact`: whatever number MOST is, the choices that are shown are those within it
pub most_exact : (t : Table) (l m : ℕ) → within_most (figures_of t l) (min number_most m) ≡ within_most (figures_of t l) m
unfolding within_most
most_exact t l m = go (figures_of t l) (figures_most t l)
  where
    go : (x : Option Figures) → ((f : Figures) → x ≡ Some f → (f.below ≤ figure_most) × (f.above ≤ figure_most))
        → within_most x (min number_most m) ≡ within_most x m
    go None h = refl
    go (Some f) h = let b = h f refl in ap₂ ◌&&◌ (capped f.below m b.0) (capped f.above m b.1)

-- `most_none`: what stands for no MOST shows them all
pub most_none : (t : Table) (l : ℕ) → within_most (figures_of t l) number_most ≡ true
unfolding within_most
most_none t l = go (figures_of t l) (figures_most t l)
  where
    go : (x : Option Figures) → ((f : Figures) → x ≡ Some f → (f.below ≤ figure_most) × (f.above ≤ figure_most)) → within_most x number_most ≡ true
    go None h = refl
    go (Some f) h =
        let b = h f refl in
        let x = b.0 in
        let y = b.1 in
        rw (le-leb f.below number_most (omega arith), le-leb f.above number_most (omega arith)) refl
