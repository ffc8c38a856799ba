-- The text of a table, line by line, read as words.
-- Assumes nothing.
use Rattle.std.proofs.Common.{ℕ, ◌≡◌, refl, ap, ◌∙◌, List, [], ◌∷◌, ◌++◌, append_assoc, ℤ, pos, negsuc}
use Rattle.layout.specs.declared.Rect.{Rect}
use Rattle.layout.specs.Contents.{Contents}
use Rattle.text.specs.Text.{decimal, cell, signed_cell}
use Rattle.text.specs.Ascii.{ascii}
use Rattle.words.specs.Words.{gap, lines_of}
use Rattle.showing.specs.Showing.{number_line, drops_line, pair, rect_line, rect_lines, head_lines, text_of}
use Rattle.tabletext.proofs.Digits.{spelled, decimal_word, spelled_word}
use Rattle.tabletext.proofs.Reading.{lined, line_again}

-- ---- the words of each line

abbrev pub number_words : (word : List ℕ) → (n : ℕ) → List (List ℕ)
number_words word n = word ∷ decimal n ∷ []

abbrev pub drops_words : (q1 q2 q3 : ℕ) → List (List ℕ)
drops_words q1 q2 q3 = ascii "drops" ∷ decimal q1 ∷ decimal q2 ∷ decimal q3 ∷ []

abbrev pub rect_words : Rect → List (List ℕ)
rect_words r =
    ascii "rectangle" ∷ ascii "lead" ∷ spelled r.leadrow ∷ spelled r.leadcol ∷ ascii "trail" ∷ spelled r.trailrow
    ∷ spelled r.trailcol ∷ ascii "weight" ∷ spelled r.weight ∷ []

abbrev pub rects_words : List Rect → List (List (List ℕ))
rects_words [] = []
rects_words (r ∷ rs) = rect_words r ∷ rects_words rs

-- ---- a line as its words with spaces between

cell_then : (x : List ℕ) (n end : ℕ) (y : List ℕ) → (x ++ cell n end) ++ y ≡ x ++ (decimal n ++ (end ∷ y))
unfolding cell
cell_then x n end y = append_assoc x (decimal n ++ (end ∷ [])) y ∙ ap (λ l. x ++ l) (append_assoc (decimal n) (end ∷ []) y)

signed_is : (z : ℤ) (end : ℕ) → signed_cell z end ≡ spelled z ++ (end ∷ [])
unfolding signed_cell cell
signed_is (pos n) end = refl
signed_is (negsuc n) end = refl

signed_then : (x : List ℕ) (z : ℤ) (end : ℕ) (y : List ℕ) → (x ++ signed_cell z end) ++ y ≡ x ++ (spelled z ++ (end ∷ y))
signed_then x z end y =
    ap (λ s. (x ++ s) ++ y) (signed_is z end)
    ∙ append_assoc x (spelled z ++ (end ∷ [])) y
    ∙ ap (λ l. x ++ l) (append_assoc (spelled z) (end ∷ []) y)

drops_then : (q1 q2 q3 : ℕ) (y : List ℕ) → drops_line q1 q2 q3 ++ y ≡ lined (ascii "drops") (decimal q1 ∷ decimal q2 ∷ decimal q3 ∷ []) y
unfolding ascii drops_line
drops_then q1 q2 q3 y =
    cell_then ((ascii "drops " ++ cell q1 32) ++ cell q2 32) q3 10 y
    ∙ cell_then (ascii "drops " ++ cell q1 32) q2 32 (decimal q3 ++ (10 ∷ y))
    ∙ cell_then (ascii "drops ") q1 32 (decimal q2 ++ (32 ∷ (decimal q3 ++ (10 ∷ y))))

pair_then : (word : List ℕ) (a b : ℤ) (y : List ℕ) → pair word a b ++ y ≡ word ++ (spelled a ++ (32 ∷ (spelled b ++ (32 ∷ y))))
unfolding pair
pair_then word a b y = signed_then (word ++ signed_cell a 32) b 32 y ∙ signed_then word a 32 (spelled b ++ (32 ∷ y))

rect_then : (r : Rect) (y : List ℕ) → rect_line r ++ y
    ≡ lined (ascii "rectangle") (ascii "lead" ∷ spelled r.leadrow ∷ spelled r.leadcol ∷ ascii "trail" ∷ spelled r.trailrow
    ∷ spelled r.trailcol ∷ ascii "weight" ∷ spelled r.weight ∷ []) y
unfolding ascii rect_line
rect_then r y =
    let lead = pair (ascii "rectangle lead ") r.leadrow r.leadcol in
    let trail = pair (ascii "trail ") r.trailrow r.trailcol in
    append_assoc (lead ++ trail) (ascii "weight " ++ signed_cell r.weight 10) y
    ∙ ap (λ l. (lead ++ trail) ++ l) (signed_then (ascii "weight ") r.weight 10 y)
    ∙ append_assoc lead trail (ascii "weight " ++ (spelled r.weight ++ (10 ∷ y)))
    ∙ ap (λ l. lead ++ l) (pair_then (ascii "trail ") r.trailrow r.trailcol (ascii "weight " ++ (spelled r.weight ++ (10 ∷ y))))
    ∙ pair_then (ascii "rectangle lead ") r.leadrow r.leadcol
    (ascii "trail " ++ (spelled r.trailrow ++ (32 ∷ (spelled r.trailcol ++ (32 ∷ (ascii "weight " ++ (spelled r.weight ++ (10 ∷ y))))))))

-- ---- a line is read as its words

bits_again : (n : ℕ) (y : List ℕ) → lines_of (number_line (ascii "bits ") n ++ y) ≡ number_words (ascii "bits") n ∷ lines_of y
unfolding ascii number_line gap
bits_again n y =
    ap lines_of (cell_then (ascii "bits ") n 10 y) ∙ line_again (ascii "bits") (decimal n ∷ []) y (rw (decimal_word n) refl)

shift_again : (n : ℕ) (y : List ℕ) → lines_of (number_line (ascii "shift ") n ++ y) ≡ number_words (ascii "shift") n ∷ lines_of y
unfolding ascii number_line gap
shift_again n y =
    ap lines_of (cell_then (ascii "shift ") n 10 y) ∙ line_again (ascii "shift") (decimal n ∷ []) y (rw (decimal_word n) refl)

word_again : (n : ℕ) (y : List ℕ) → lines_of (number_line (ascii "word ") n ++ y) ≡ number_words (ascii "word") n ∷ lines_of y
unfolding ascii number_line gap
word_again n y =
    ap lines_of (cell_then (ascii "word ") n 10 y) ∙ line_again (ascii "word") (decimal n ∷ []) y (rw (decimal_word n) refl)

drops_again : (q1 q2 q3 : ℕ) (y : List ℕ) → lines_of (drops_line q1 q2 q3 ++ y) ≡ drops_words q1 q2 q3 ∷ lines_of y
unfolding ascii gap
drops_again q1 q2 q3 y =
    ap lines_of (drops_then q1 q2 q3 y)
    ∙ line_again (ascii "drops") (decimal q1 ∷ decimal q2 ∷ decimal q3 ∷ []) y (rw (decimal_word q1, decimal_word q2, decimal_word q3) refl)

rect_again : (r : Rect) (y : List ℕ) → lines_of (rect_line r ++ y) ≡ rect_words r ∷ lines_of y
unfolding ascii gap
rect_again r y =
    ap lines_of (rect_then r y)
    ∙ line_again (ascii "rectangle") (ascii "lead" ∷ spelled r.leadrow ∷ spelled r.leadcol ∷ ascii "trail" ∷ spelled r.trailrow
    ∷ spelled r.trailcol ∷ ascii "weight" ∷ spelled r.weight ∷ []) y
    (rw (spelled_word r.leadrow, spelled_word r.leadcol, spelled_word r.trailrow, spelled_word r.trailcol, spelled_word r.weight) refl)

rects_again : (rs : List Rect) (y : List ℕ) → lines_of (rect_lines rs ++ y) ≡ rects_words rs ++ lines_of y
unfolding rect_lines
rects_again [] y = refl
rects_again (r ∷ rs) y =
    ap lines_of (append_assoc (rect_line r) (rect_lines rs) y) ∙ rect_again r (rect_lines rs ++ y) ∙ ap (λ l. rect_words r ∷ l) (rects_again rs y)

-- ---- the whole text

abbrev pub shown_words : Contents → List (List (List ℕ))
shown_words c =
    number_words (ascii "bits") c.b ∷ drops_words c.q1 c.q2 c.q3 ∷ number_words (ascii "shift") c.t
    ∷ number_words (ascii "word") c.w ∷ rects_words c.rects

five : (a b c d e f : List ℕ) → ((((a ++ b) ++ c) ++ d) ++ e) ++ f ≡ a ++ (b ++ (c ++ (d ++ (e ++ f))))
five a b c d e f =
    append_assoc (((a ++ b) ++ c) ++ d) e f
    ∙ append_assoc ((a ++ b) ++ c) d (e ++ f)
    ∙ append_assoc (a ++ b) c (d ++ (e ++ f))
    ∙ append_assoc a b (c ++ (d ++ (e ++ f)))

-- the text of a table and what follows it: a line of words for each of its lines, then what follows
pub text_again : (c : Contents) (y : List ℕ) → lines_of (text_of c ++ y) ≡ shown_words c ++ lines_of y
unfolding text_of head_lines
text_again c y =
    let rest = rect_lines c.rects ++ y in
    let three = number_line (ascii "word ") c.w ++ rest in
    let two = number_line (ascii "shift ") c.t ++ three in
    let one = drops_line c.q1 c.q2 c.q3 ++ two in
    ap lines_of (five (number_line (ascii "bits ") c.b) (drops_line c.q1 c.q2 c.q3) (number_line (ascii "shift ") c.t)
    (number_line (ascii "word ") c.w) (rect_lines c.rects) y)
    ∙ bits_again c.b one
    ∙ ap (λ l. number_words (ascii "bits") c.b ∷ l) (drops_again c.q1 c.q2 c.q3 two
    ∙ ap (λ l. drops_words c.q1 c.q2 c.q3 ∷ l) (shift_again c.t three
    ∙ ap (λ l. number_words (ascii "shift") c.t ∷ l) (word_again c.w rest
    ∙ ap (λ l. number_words (ascii "word") c.w ∷ l) (rects_again c.rects y))))
