-- Offsets as signed words: from -15 to 15, and raised by 15.
-- Assumes nothing.
use native.Mathlib.Omega.{arith}
use mathlib.Core.Path.{◌≡◌, sym, ap, ◌∙◌, subst}
use lib.IntN.{ℤ, pos, ◌+ℤ◌}
use mir.Syntax.{w32}
use mir.Val.{SFits, to_z, of_z}
use mir.Facts.{to_z-of_z}
use Rattle.arith.specs.Diff.{Diff}
use Rattle.arith.specs.Part.{pos_part}
use Rattle.arith.proofs.Ints.{diff_pos, diff_sub, diff_add, diff_eq}
use Rattle.sametable.specs.Comparison.{place_of, InGrid}

module _ {o : ℤ} (g : InGrid o) where
  raised : o +ℤ pos 15 ≡ pos g.a
  raised = diff_eq (diff_add (subst (λ z. Diff z g.a 15) (sym g.is) (diff_sub g.a 15)) (diff_pos 15)) (diff_pos g.a) (omega arith)

  -- the code's steps: o raised by 15 in 32 bits
  module _ (f : SFits w32 o) where
    pub code_raised : to_z w32 (of_z w32 o) +ℤ pos 15 ≡ pos g.a
    code_raised = ap (λ z. z +ℤ pos 15) (to_z-of_z f) ∙ raised

    pub code_fits : SFits w32 (to_z w32 (of_z w32 o) +ℤ pos 15)
    code_fits = let l = g.less in subst (SFits w32) (sym code_raised) (record { sfits = omega arith })

    pub code_value : to_z w32 (of_z w32 (to_z w32 (of_z w32 o) +ℤ pos 15)) ≡ pos g.a
    code_value = to_z-of_z code_fits ∙ code_raised

  pub place_is : g.a ≡ place_of o
  place_is = sym (ap pos_part raised)
