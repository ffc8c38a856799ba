-- Which lines are shown.
-- Assumes nothing.
use Rattle.std.proofs.Common.{◌≡◌, ℕ, ◌≤◌, ◌<◌, List, [], ◌++◌, Bool, true, false, Some, None, length, get_or, drop, replicate, refl, ap, ◌∙◌, le-leb, arith}
use Rattle.std.proofs.Math.ListN.{length-replicate}
use borrow.Author.Tests.{lt-leb}
use Rattle.arith.specs.Tab.{tab}
use Rattle.arith.proofs.Passes.{pass_length, pass_done}
use Rattle.layout.specs.declared.Table.{Table}
use Rattle.figures.specs.declared.Figures.{Figures}
use Rattle.figures.specs.Measured.{figures_of}
use Rattle.choices.specs.Choices.{with_drops, choice_count, listed}
use Rattle.choices.proofs.Stored.{count_most}
use Rattle.choicetext.specs.Lines.{within_most, choice_line, shown_line, choice_text}

module _ (t : Table) (l most i : ℕ) where
  pub not_listed : listed t l i ≡ false → choice_text t l most i ≡ []
  unfolding choice_text
  not_listed e = rw e refl

  module _ (e : listed t l i ≡ true) where
    pub no_figures : figures_of (with_drops t i) l ≡ None → choice_text t l most i ≡ []
    unfolding choice_text shown_line within_most
    no_figures is = rw (e, is) refl

    module _ {f : Figures} (is : figures_of (with_drops t i) l ≡ Some f) where
      pub far_below : most < f.below → choice_text t l most i ≡ []
      unfolding choice_text shown_line within_most
      far_below h = rw (e, is, lt-leb f.below most h) refl

      pub far_above : f.below ≤ most → most < f.above → choice_text t l most i ≡ []
      unfolding choice_text shown_line within_most
      far_above g h = rw (e, is, le-leb f.below most g, lt-leb f.above most h) refl

      pub near : f.below ≤ most → f.above ≤ most → choice_text t l most i ≡ choice_line i f
      unfolding choice_text shown_line within_most
      near g h = rw (e, is, le-leb f.below most g, le-leb f.above most h) refl

-- the marks as they were put into 972 places that say no
module _ (t : Table) (l : ℕ) {n : ℕ} {marks : List Bool} (e : n ≡ choice_count t)
    (m : marks ≡ tab (choice_count t) (listed t l) ++ drop (choice_count t) (replicate 972 false)) where
  pub marks_few : n ≤ 972
  marks_few = let h = count_most t in omega arith

  pub marks_long : length marks ≡ 972
  marks_long =
      let z = length-replicate {A = Bool} 972 false in
      let h = count_most t in
      ap length m ∙ pass_length (choice_count t) (listed t l) (replicate 972 false) (omega arith) ∙ z

  pub marks_at : (i : ℕ) → i < n → get_or marks i false ≡ listed t l i
  marks_at i h =
      ap (λ xs. get_or xs i false) m ∙ pass_done (choice_count t) (listed t l) (replicate 972 false) i false (omega arith)
