-- What a line that passed its questions has: a rectangle's weight has 16 bits.
-- Assumes nothing.
use Rattle.std.proofs.Common.{ℕ, arith, ◌≡◌, refl, sym, ap, ◌∙◌, subst, true, cond, List, [], ◌∷◌, T, eqb, length, ne_eqb}
use Rattle.arith.specs.Twos.{fits_signed}
use Rattle.layout.proofs.Questions.{AllYes}
use Rattle.text.specs.Ascii.{ascii}
use Rattle.words.specs.Words.{same}
use Rattle.forms.specs.Forms.{names, place_in, kind_of, integer_at, weight_good, line_asks}

-- a line without words is of no kind
pub blank_kind : kind_of [] ≡ 5
unfolding kind_of place_in names ascii same
blank_kind = refl

pub line_weight : (place : ℕ) (ws : List (List ℕ)) → AllYes (line_asks place ws) → eqb (kind_of ws) 4 ≡ true → fits_signed 16 (integer_at ws 8) ≡ true
unfolding line_asks weight_good
line_weight place [] y k = absurd (subst T (sym k ∙ ap (λ n. eqb n 4) blank_kind) tt)
line_weight place (w ∷ ws) y k =
    let z = rw (ne_eqb (length (w ∷ ws)) 0 (λ e. omega arith)) at y in
    sym (ap (λ b. cond b (fits_signed 16 (integer_at (w ∷ ws) 8)) true) k) ∙ z.1.1.0
