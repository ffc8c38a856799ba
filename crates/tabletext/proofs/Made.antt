-- What is made of a text whose lines are those of a shown table.
-- Assumes nothing.
use Rattle.std.proofs.Common.{ℕ, suc, ◌-◌, ◌≤◌, ◌<◌, arith, ◌≡◌, refl, sym, ap, ap₂, ◌∙◌, subst, cond, List, [], ◌∷◌, ◌++◌, leb, length, get_or, le-leb, leb-true, ltb-true, ne_eqb}
use Rattle.arith.proofs.Bools.{true_of}
use Rattle.layout.specs.declared.Rect.{Rect}
use Rattle.layout.specs.Contents.{Contents}
use Rattle.layout.specs.Answers.{Question, asks, first_no}
use Rattle.layout.proofs.Questions.{AllYes, all_accepted, first_append}
use Rattle.limits.specs.Limits.{bits_good, drops_good, word_good, rect_good, value_good}
use Rattle.limits.proofs.Asked.{HeadTests, word_bounds}
use Rattle.table.specs.Format.{refused, loaded}
use Rattle.table.proofs.Complete.{Fines, Shaped}
use Rattle.text.specs.Ascii.{ascii}
use Rattle.words.specs.Words.{same, lines_of}
use Rattle.forms.specs.Forms.{names, place_in, kind_of, size_at, line_asks}
use Rattle.making.specs.Making.{Line, line, of_kind, lines_with, head_line, rects_in, contents_of, lines_ask, once_asks, all_once, numbers_ask, rect_asks, rects_ask, head_asks, tail_asks, make_asks, make_of}
use Rattle.tabletext.proofs.Digits.{both, number_again}
use Rattle.tabletext.proofs.Shown.{number_words, drops_words, rect_words, rects_words, shown_words}
use Rattle.tabletext.proofs.Asked.{bits_asked, drops_asked, shift_asked, word_asked, rect_kind, rect_in_lem, rect_asked}

pub yes_append : (ps qs : List Question) → AllYes ps → AllYes qs → AllYes (ps ++ qs)
yes_append [] qs p q = q
yes_append (x ∷ ps) qs p q = (p.0, yes_append ps qs p.1 q)

-- the numbers of a header within the limits are small
record Small (b q1 q2 q3 t w : ℕ) : Type 0 where
  b_is : b < 65536
  q1_is : q1 < 65536
  q2_is : q2 < 65536
  q3_is : q3 < 65536
  t_is : t < 65536
  w_is : w < 65536

small : (b q1 q2 q3 t w : ℕ) → HeadTests b q1 q2 q3 t w → Small b q1 q2 q3 t w
unfolding bits_good drops_good
small b q1 q2 q3 t w h =
    let x = both (leb 1 b) (leb b 12) h.bits in
    let y = both _ _ h.drops in
    let z = both (leb q2 8) (leb q3 8) y.1 in
    let v = word_bounds t w h.word in
    let m = leb-true b 12 x.1 in
    let n = ltb-true q1 b y.0 in
    let k = leb-true q2 8 z.0 in
    let l = leb-true q3 8 z.1 in
    record { b_is = omega arith; q1_is = omega arith; q2_is = omega arith; q3_is = omega arith; t_is = omega arith; w_is = omega arith }

-- ---- the lines of a kind

-- lines that say nothing
pub record Silent (extra : List (List (List ℕ))) : Type 0 where
  pub kinds : (kind place : ℕ) → kind < 5 → of_kind kind place extra ≡ []
  pub asked : (place : ℕ) → AllYes (lines_ask place extra)

-- rectangles' lines from a place on
abbrev placed : (place : ℕ) → List Rect → List Line
placed place [] = []
placed place (r ∷ rs) = line place (rect_words r) ∷ placed (suc place) rs

module _ {extra : List (List (List ℕ))} (s : Silent extra) where
  none_of : (kind place : ℕ) (rs : List Rect) → kind < 4 → of_kind kind place (rects_words rs ++ extra) ≡ []
  unfolding of_kind
  none_of kind place [] h = s.kinds kind place (omega arith)
  none_of kind place (r ∷ rs) h = rw (rect_kind r, ne_eqb 4 kind (λ q. omega arith)) (none_of kind (suc place) rs h)

  rects_of : (place : ℕ) (rs : List Rect) → of_kind 4 place (rects_words rs ++ extra) ≡ placed place rs
  unfolding of_kind
  rects_of place [] = s.kinds 4 place (omega arith)
  rects_of place (r ∷ rs) = rw (rect_kind r) (ap (λ l. line place (rect_words r) ∷ l) (rects_of (suc place) rs))

  module _ (c : Contents) where
    bits_of : of_kind 0 1 (shown_words c ++ extra) ≡ line 1 (number_words (ascii "bits") c.b) ∷ []
    unfolding ascii names place_in kind_of same of_kind
    bits_of = ap (λ l. line 1 (number_words (ascii "bits") c.b) ∷ l) (none_of 0 5 c.rects (omega arith))

    drops_of : of_kind 1 1 (shown_words c ++ extra) ≡ line 2 (drops_words c.q1 c.q2 c.q3) ∷ []
    unfolding ascii names place_in kind_of same of_kind
    drops_of = ap (λ l. line 2 (drops_words c.q1 c.q2 c.q3) ∷ l) (none_of 1 5 c.rects (omega arith))

    shift_of : of_kind 2 1 (shown_words c ++ extra) ≡ line 3 (number_words (ascii "shift") c.t) ∷ []
    unfolding ascii names place_in kind_of same of_kind
    shift_of = ap (λ l. line 3 (number_words (ascii "shift") c.t) ∷ l) (none_of 2 5 c.rects (omega arith))

    word_of : of_kind 3 1 (shown_words c ++ extra) ≡ line 4 (number_words (ascii "word") c.w) ∷ []
    unfolding ascii names place_in kind_of same of_kind
    word_of = ap (λ l. line 4 (number_words (ascii "word") c.w) ∷ l) (none_of 3 5 c.rects (omega arith))

    four_of : of_kind 4 1 (shown_words c ++ extra) ≡ placed 5 c.rects
    unfolding ascii names place_in kind_of same of_kind
    four_of = rects_of 5 c.rects

  -- ---- the questions

  rects_asked : (place : ℕ) (rs : List Rect) → Fines rs → AllYes (lines_ask place (rects_words rs ++ extra))
  unfolding lines_ask
  rects_asked place [] f = s.asked place
  rects_asked place (r ∷ rs) f =
      yes_append (line_asks place (rect_words r)) _ (rect_asked place r (f 0 (omega arith))) (rects_asked (suc place) rs (λ k h. f (suc k) (omega arith)))

  lines_asked : (c : Contents) → Shaped c → AllYes (lines_ask 1 (shown_words c ++ extra))
  unfolding lines_ask
  lines_asked c h =
      let n = small c.b c.q1 c.q2 c.q3 c.t c.w h.head in
      yes_append (line_asks 1 (number_words (ascii "bits") c.b)) _ (bits_asked 1 c.b n.b_is)
      (yes_append (line_asks 2 (drops_words c.q1 c.q2 c.q3)) _ (drops_asked 2 c.q1 c.q2 c.q3 n.q1_is n.q2_is n.q3_is)
      (yes_append (line_asks 3 (number_words (ascii "shift") c.t)) _ (shift_asked 3 c.t n.t_is)
      (yes_append (line_asks 4 (number_words (ascii "word") c.w)) _ (word_asked 4 c.w n.w_is) (rects_asked 5 c.rects h.fine))))

-- questions 6 and 8
rects_good : (left place : ℕ) (rs : List Rect) → length rs ≤ left → Fines rs → AllYes (rects_ask left (placed place rs))
unfolding rects_ask rect_asks
rects_good left place [] h f = tt
rects_good left place (r ∷ rs) h f =
    let g = f 0 (omega arith) in (
      le-leb 1 left (omega arith),
      (ap rect_good (rect_in_lem r g) ∙ true_of _ g.0, rects_good (left - 1) (suc place) rs (omega arith) (λ k l. f (suc k) (omega arith))),
    )

-- the rectangles are said
rects_said : (place : ℕ) (rs : List Rect) → Fines rs → rects_in (placed place rs) ≡ rs
unfolding rects_in
rects_said place [] f = refl
rects_said place (r ∷ rs) f = ap₂ ◌∷◌ (rect_in_lem r (f 0 (omega arith))) (rects_said (suc place) rs (λ k l. f (suc k) (omega arith)))

-- a header's line that is there once
once_asked : (kind : ℕ) (ls : List Line) (l : Line) → ls ≡ l ∷ [] → AllYes (once_asks kind ls)
unfolding once_asks
once_asked kind ls l e = rw e (refl, (refl, tt))

placed-length : (place : ℕ) (rs : List Rect) → length (placed place rs) ≡ length rs
placed-length place [] = refl
placed-length place (r ∷ rs) = ap suc (placed-length (suc place) rs)

-- ---- the whole text

module _ (text : List ℕ) (c : Contents) (extra : List (List (List ℕ))) (e : lines_of text ≡ shown_words c ++ extra) (s : Silent extra) (h : Shaped c) where
  kind_is : (kind : ℕ) → lines_with kind text ≡ of_kind kind 1 (shown_words c ++ extra)
  unfolding lines_with
  kind_is kind = ap (of_kind kind 1) e

  -- it says the table
  contents_is : contents_of text ≡ c
  unfolding head_line size_at
  contents_is =
      let n = small c.b c.q1 c.q2 c.q3 c.t c.w h.head in
      let at : (k : ℕ) (ls : List Line) → ℕ = λ k ls. size_at (get_or ls 0 (line 0 [])).words k in
      let b0 = ap (at 0) (kind_is 0 ∙ bits_of s c) ∙ (number_again c.b n.b_is).1 in
      let d0 = ap (at 0) (kind_is 1 ∙ drops_of s c) ∙ (number_again c.q1 n.q1_is).1 in
      let d1 = ap (at 1) (kind_is 1 ∙ drops_of s c) ∙ (number_again c.q2 n.q2_is).1 in
      let d2 = ap (at 2) (kind_is 1 ∙ drops_of s c) ∙ (number_again c.q3 n.q3_is).1 in
      let t0 = ap (at 0) (kind_is 2 ∙ shift_of s c) ∙ (number_again c.t n.t_is).1 in
      let w0 = ap (at 0) (kind_is 3 ∙ word_of s c) ∙ (number_again c.w n.w_is).1 in
      let rs = ap rects_in (kind_is 4 ∙ four_of s c) ∙ rects_said 5 c.rects h.fine in
      λ i. record { b = b0 i; q1 = d0 i; q2 = d1 i; q3 = d2 i; t = t0 i; w = w0 i; rects = rs i }

  -- every question but the last is answered yes
  once_yes : AllYes (all_once text)
  unfolding all_once
  once_yes =
      let q0 = once_asks 0 (lines_with 0 text) in
      let q1 = once_asks 1 (lines_with 1 text) in
      let q2 = once_asks 2 (lines_with 2 text) in
      let q3 = once_asks 3 (lines_with 3 text) in
      let y0 = once_asked 0 (lines_with 0 text) (line 1 (number_words (ascii "bits") c.b)) (kind_is 0 ∙ bits_of s c) in
      let y1 = once_asked 1 (lines_with 1 text) (line 2 (drops_words c.q1 c.q2 c.q3)) (kind_is 1 ∙ drops_of s c) in
      let y2 = once_asked 2 (lines_with 2 text) (line 3 (number_words (ascii "shift") c.t)) (kind_is 2 ∙ shift_of s c) in
      let y3 = once_asked 3 (lines_with 3 text) (line 4 (number_words (ascii "word") c.w)) (kind_is 3 ∙ word_of s c) in
      yes_append q0 (q1 ++ (q2 ++ q3)) y0 (yes_append q1 (q2 ++ q3) y1 (yes_append q2 q3 y2 y3))

  numbers_yes : AllYes (numbers_ask text (contents_of text))
  unfolding numbers_ask
  numbers_yes = (
    ap (λ d. bits_good d.b) contents_is ∙ h.head.bits,
    (ap (λ d. drops_good d.b d.q1 d.q2 d.q3) contents_is ∙ h.head.drops, (ap (λ d. word_good d.t d.w) contents_is ∙ h.head.word, tt)),
  )

  head_yes : AllYes (head_asks text)
  unfolding head_asks
  head_yes =
      yes_append (lines_ask 1 (lines_of text)) (all_once text ++ numbers_ask text (contents_of text))
      (subst (λ ls. AllYes (lines_ask 1 ls)) (sym e) (lines_asked s c h)) (yes_append (all_once text) (numbers_ask text (contents_of text)) once_yes numbers_yes)

  tail_yes : AllYes (tail_asks text)
  unfolding tail_asks
  tail_yes =
      let some = h.some in
      let n = ap length (kind_is 4 ∙ four_of s c) ∙ placed-length 5 c.rects in
      yes_append (rects_ask 16 (lines_with 4 text)) (asks 9 (leb 1 (length (lines_with 4 text))) ∷ [])
      (subst (λ ls. AllYes (rects_ask 16 ls)) (sym (kind_is 4 ∙ four_of s c)) (rects_good 16 5 c.rects h.most h.fine))
      (le-leb 1 (length (lines_with 4 text)) (omega arith), tt)

  -- what is left is question 10
  pub made : length text ≤ 65535 → make_of text ≡ cond (value_good c) (loaded c) (refused 10 0)
  unfolding make_of make_asks
  made l =
      let last = asks 10 (value_good (contents_of text)) ∷ [] in
      let d = loaded (contents_of text) in
      rw (le-leb (length text) 65535 l)
      (first_append (head_asks text) (tail_asks text ++ last) refused d
      ∙ all_accepted (head_asks text) refused (first_no (tail_asks text ++ last) refused d) head_yes
      ∙ first_append (tail_asks text) last refused d
      ∙ all_accepted (tail_asks text) refused (first_no last refused d) tail_yes
      ∙ ap (λ x. cond (value_good x) (loaded x) (refused 10 0)) contents_is)

-- ---- lines that say nothing

pub silent_none : Silent []
unfolding of_kind lines_ask
silent_none = record { kinds = λ kind place h. refl; asked = λ place. tt }

pub silent_blank : Silent ([] ∷ [])
unfolding ascii names place_in kind_of same of_kind lines_ask line_asks
silent_blank = record { kinds = λ kind place h. rw (ne_eqb 5 kind (λ q. omega arith)) refl; asked = λ place. tt }
