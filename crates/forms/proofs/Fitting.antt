-- A line against a form, a word at a time.
-- Assumes nothing.
use Rattle.std.proofs.Common.{◌≡◌, ℕ, suc, Bool, true, false, eqb, List, [], ◌∷◌, length, refl, sym, ap, ap₂, ◌∙◌, arith, ne_eqb}
use Rattle.forms.specs.Forms.{word_fits, fits}

fits_end : (words : List (List ℕ)) → fits [] words ≡ eqb (length words) 0
unfolding fits
fits_end [] = refl
fits_end (word ∷ words) = sym (ne_eqb (suc (length words)) 0 (λ e. omega arith))

-- what is left of a form's words and of a line's
module _ (ms ws : List (List ℕ)) (is : Bool) (left : fits ms ws ≡ is) where
  -- no mark is left
  pub both_end : ms ≡ [] → eqb (length ws) 0 ≡ is
  both_end e = sym (fits_end ws) ∙ ap (λ m. fits m ws) (sym e) ∙ left

  module _ (mark : List ℕ) (marks : List (List ℕ)) (m : ms ≡ mark ∷ marks) where
    -- words are missing
    pub both_short : ws ≡ [] → false ≡ is
    unfolding fits
    both_short e = ap₂ fits (sym m) (sym e) ∙ left

    module _ (word : List ℕ) (words : List (List ℕ)) (w : ws ≡ word ∷ words) where
      -- one does not fit
      pub both_off : word_fits mark word ≡ false → false ≡ is
      unfolding fits
      both_off e = sym (off e) ∙ ap₂ fits (sym m) (sym w) ∙ left
        where
          off : word_fits mark word ≡ false → fits (mark ∷ marks) (word ∷ words) ≡ false
          off e = rw e refl

      -- one fits
      pub both_on : word_fits mark word ≡ true → fits marks words ≡ is
      unfolding fits
      both_on e = sym (on e) ∙ ap₂ fits (sym m) (sym w) ∙ left
        where
          on : word_fits mark word ≡ true → fits (mark ∷ marks) (word ∷ words) ≡ fits marks words
          on e = rw e refl
