-- The lines of a shown table: each is of its kind and its form, and says the numbers that it was made of.
-- Assumes nothing.
use Rattle.std.proofs.Common.{ℕ, suc, ◌<◌, arith, ◌≡◌, refl, ap, ◌∙◌, true, List, [], ◌∷◌, length, ne_eqb}
use Rattle.std.specs.Int.Signed.{mag}
use Rattle.arith.specs.Twos.{fits_signed}
use Rattle.arith.proofs.Bools.{true_of}
use Rattle.arith.proofs.Words.{fits_mag}
use Rattle.layout.specs.declared.Rect.{Rect}
use Rattle.layout.proofs.Questions.{AllYes}
use Rattle.limits.proofs.Bounds.{rect_bounds, edge_fits}
use Rattle.table.proofs.Complete.{Fine}
use Rattle.text.specs.Ascii.{ascii}
use Rattle.words.specs.Words.{gap, ended, words_from, words_of, same, is_integer}
use Rattle.forms.specs.Forms.{names, place_in, kind_of, forms, form, word_fits, fits, integer_at, rect_in, weight_good, line_asks}
use Rattle.tabletext.proofs.Digits.{spelled, number_again, integer_again}
use Rattle.tabletext.proofs.Shown.{number_words, drops_words, rect_words}

-- ---- the header's lines

pub bits_asked : (place n : ℕ) → n < 65536 → AllYes (line_asks place (number_words (ascii "bits") n))
unfolding ascii names place_in kind_of same forms form words_of words_from ended gap word_fits fits weight_good line_asks
bits_asked place n h = (refl, (rw (number_again n h).0 refl, (refl, tt)))

pub drops_asked : (place q1 q2 q3 : ℕ) → q1 < 65536 → q2 < 65536 → q3 < 65536 → AllYes (line_asks place (drops_words q1 q2 q3))
unfolding ascii names place_in kind_of same forms form words_of words_from ended gap word_fits fits weight_good line_asks
drops_asked place q1 q2 q3 h1 h2 h3 = (refl, (rw ((number_again q1 h1).0, (number_again q2 h2).0, (number_again q3 h3).0) refl, (refl, tt)))

pub shift_asked : (place n : ℕ) → n < 65536 → AllYes (line_asks place (number_words (ascii "shift") n))
unfolding ascii names place_in kind_of same forms form words_of words_from ended gap word_fits fits weight_good line_asks
shift_asked place n h = (refl, (rw (number_again n h).0 refl, (refl, tt)))

pub word_asked : (place n : ℕ) → n < 65536 → AllYes (line_asks place (number_words (ascii "word") n))
unfolding ascii names place_in kind_of same forms form words_of words_from ended gap word_fits fits weight_good line_asks
word_asked place n h = (refl, (rw (number_again n h).0 refl, (refl, tt)))

-- ---- a rectangle's line

-- the sizes of what it says
record Small (r : Rect) : Type 0 where
  leadrow : mag r.leadrow < 65535
  leadcol : mag r.leadcol < 65535
  trailrow : mag r.trailrow < 65535
  trailcol : mag r.trailcol < 65535
  weight : mag r.weight < 65535

small : (r : Rect) → Fine r → Small r
small r f =
    let b = rect_bounds r f.0 in
    let x = b.row in
    let y = b.col in
    let p = x.above in
    let q = y.above in
    let m = x.most in
    let n = y.most in
    let e0 = fits_mag 8 r.leadrow (edge_fits x.lead_is x.most) in
    let e1 = fits_mag 8 r.leadcol (edge_fits y.lead_is y.most) in
    let e2 = fits_mag 8 r.trailrow (edge_fits x.trail_is (omega arith)) in
    let e3 = fits_mag 8 r.trailcol (edge_fits y.trail_is (omega arith)) in
    let e4 = fits_mag 16 r.weight f.1 in
    record { leadrow = omega arith; leadcol = omega arith; trailrow = omega arith; trailcol = omega arith; weight = omega arith }

-- it says the rectangle
pub rect_in_lem : (r : Rect) → Fine r → rect_in (rect_words r) ≡ r
unfolding integer_at
rect_in_lem r f =
    let s = small r f in
    let e0 = (integer_again r.leadrow s.leadrow).1 in
    let e1 = (integer_again r.leadcol s.leadcol).1 in
    let e2 = (integer_again r.trailrow s.trailrow).1 in
    let e3 = (integer_again r.trailcol s.trailcol).1 in
    let e4 = (integer_again r.weight s.weight).1 in
    λ i. record { leadrow = e0 i; leadcol = e1 i; trailrow = e2 i; trailcol = e3 i; weight = e4 i }

form_four : form 4
    ≡ ascii "rectangle" ∷ ascii "lead" ∷ ascii "Z" ∷ ascii "Z" ∷ ascii "trail" ∷ ascii "Z" ∷ ascii "Z" ∷ ascii "weight" ∷ ascii "Z" ∷ []
unfolding ascii forms form words_of words_from ended gap
form_four = refl

fits_more : (mark word : List ℕ) (marks words : List (List ℕ)) → word_fits mark word ≡ true → fits marks words ≡ true
    → fits (mark ∷ marks) (word ∷ words) ≡ true
unfolding fits
fits_more mark word marks words h e = rw h e

fits_none : fits [] [] ≡ true
unfolding fits
fits_none = refl

-- the words of a form that stand for themselves, and for an integer
lead_fits : word_fits (ascii "lead") (ascii "lead") ≡ true
unfolding ascii same word_fits
lead_fits = refl

trail_fits : word_fits (ascii "trail") (ascii "trail") ≡ true
unfolding ascii same word_fits
trail_fits = refl

weight_fits : word_fits (ascii "weight") (ascii "weight") ≡ true
unfolding ascii same word_fits
weight_fits = refl

rectangle_fits : word_fits (ascii "rectangle") (ascii "rectangle") ≡ true
unfolding ascii same word_fits
rectangle_fits = refl

integer_fits : (w : List ℕ) → is_integer w ≡ true → word_fits (ascii "Z") w ≡ true
unfolding ascii same word_fits
integer_fits w e = e

-- words of a rectangle's form
rect_fits : (a b c d e : List ℕ) → is_integer a ≡ true → is_integer b ≡ true → is_integer c ≡ true → is_integer d ≡ true → is_integer e ≡ true
    → fits (form 4) (ascii "rectangle" ∷ ascii "lead" ∷ a ∷ b ∷ ascii "trail" ∷ c ∷ d ∷ ascii "weight" ∷ e ∷ []) ≡ true
rect_fits a b c d e ha hb hc hd he =
    ap (λ f. fits f (ascii "rectangle" ∷ ascii "lead" ∷ a ∷ b ∷ ascii "trail" ∷ c ∷ d ∷ ascii "weight" ∷ e ∷ [])) form_four
    ∙ fits_more _ _ _ _ rectangle_fits (fits_more _ _ _ _ lead_fits (fits_more _ _ _ _ (integer_fits a ha) (fits_more _ _ _ _ (integer_fits b hb)
    (fits_more _ _ _ _ trail_fits (fits_more _ _ _ _ (integer_fits c hc) (fits_more _ _ _ _ (integer_fits d hd)
    (fits_more _ _ _ _ weight_fits (fits_more _ _ _ _ (integer_fits e he) fits_none))))))))

-- a line of kind 4 that is of its form and has a weight of 16 bits
kind_asked : (place : ℕ) (w : List ℕ) (ws : List (List ℕ)) → kind_of (w ∷ ws) ≡ 4 → fits (form 4) (w ∷ ws) ≡ true
    → fits_signed 16 (integer_at (w ∷ ws) 8) ≡ true → AllYes (line_asks place (w ∷ ws))
unfolding weight_good line_asks
kind_asked place w ws k f g = rw (ne_eqb (suc (length ws)) 0 (λ q. omega arith), k) (refl, (f, (g, tt)))

pub rect_kind : (r : Rect) → kind_of (rect_words r) ≡ 4
unfolding ascii names place_in kind_of same
rect_kind r = refl

pub rect_asked : (place : ℕ) (r : Rect) → Fine r → AllYes (line_asks place (rect_words r))
unfolding integer_at
rect_asked place r f =
    let s = small r f in
    let e0 = (integer_again r.leadrow s.leadrow).0 in
    let e1 = (integer_again r.leadcol s.leadcol).0 in
    let e2 = (integer_again r.trailrow s.trailrow).0 in
    let e3 = (integer_again r.trailcol s.trailcol).0 in
    let e4 = integer_again r.weight s.weight in
    kind_asked place _ _ (rect_kind r)
    (rect_fits (spelled r.leadrow) (spelled r.leadcol) (spelled r.trailrow) (spelled r.trailcol) (spelled r.weight) e0 e1 e2 e3 e4.0)
    (ap (fits_signed 16) e4.1 ∙ true_of _ f.1)
