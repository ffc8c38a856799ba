-- What a text has that passed its questions: its numbers are not held, and its rectangles are within the limits.
-- Assumes nothing.
use Rattle.std.proofs.Common.{ℕ, zero, suc, ◌-◌, ◌≤◌, arith, ◌≡◌, refl, sym, ap, ap₂, subst, Bool, true, false, cond, ◌&&◌, List, [], ◌∷◌, ◌++◌, T, leb, ltb, eqb, leb→le, ltb→lt, length, leb-true, le-leb}
use Rattle.std.proofs.Math.Facts.{and_yes}
use Rattle.arith.specs.Twos.{fits_signed}
use Rattle.layout.specs.Contents.{Contents, table_of}
use Rattle.layout.specs.Answers.{Question, asks}
use Rattle.layout.proofs.Questions.{AllYes}
use Rattle.limits.specs.Limits.{drops_good, rect_good, value_good, fitting}
use Rattle.limits.proofs.Asked.{HeadTests, word_bounds}
use Rattle.table.proofs.Complete.{Fines, Shaped}
use Rattle.table.proofs.Structs.{contents-table_of}
use Rattle.words.specs.Words.{lines_of}
use Rattle.forms.specs.Forms.{kind_of, integer_at, rect_in, line_asks}
use Rattle.forms.proofs.Exact.{rect_exact}
use Rattle.forms.proofs.Weights.{line_weight}
use Rattle.making.specs.Making.{Line, line, of_kind, lines_with, rects_in, contents_of, lines_ask, all_once, numbers_ask, rect_asks, rects_ask, head_asks, tail_asks}
use Rattle.making.specs.Steps.{held_at, held_rects, held_contents}
use Rattle.making.proofs.Numbers.{bits_most}

pub yes_append : (ps qs : List Question) → AllYes (ps ++ qs) → AllYes ps × AllYes qs
yes_append [] qs y = (tt, y)
yes_append (p ∷ ps) qs y = let r = yes_append ps qs y.1 in ((y.0, r.0), r.1)

-- ---- the rectangles

-- every weight has 16 bits
abbrev pub WeightsFit : List Line → Type 0
WeightsFit [] = Unit {0}
WeightsFit (l ∷ ls) = (fits_signed 16 (integer_at l.words 8) ≡ true) × WeightsFit ls

weights_fit : (place : ℕ) (lines : List (List (List ℕ))) → AllYes (lines_ask place lines) → WeightsFit (of_kind 4 place lines)
unfolding lines_ask of_kind
weights_fit place [] y = tt
weights_fit place (ws ∷ lines) y =
    let s = yes_append (line_asks place ws) (lines_ask (suc place) lines) y in
    go (eqb (kind_of ws) 4) (line_weight place ws s.0) (weights_fit (suc place) lines s.1)
  where
    go : (c : Bool) → (c ≡ true → fits_signed 16 (integer_at ws 8) ≡ true) → WeightsFit (of_kind 4 (suc place) lines)
        → WeightsFit (cond c (line place ws ∷ of_kind 4 (suc place) lines) (of_kind 4 (suc place) lines))
    go true f r = (f refl, r)
    go false f r = r

rects_split : (left : ℕ) (l : Line) (ls : List Line) → AllYes (rects_ask left (l ∷ ls))
    → (1 ≤ left) × (rect_good (rect_in l.words) ≡ true) × AllYes (rects_ask (left - 1) ls)
unfolding rects_ask rect_asks
rects_split left l ls y =
    let s = yes_append (rect_asks left l) (rects_ask (left - 1) ls) y in
    (leb-true 1 left s.0.0, s.0.1.0, s.1)

rects_exact : (left : ℕ) (ls : List Line) → AllYes (rects_ask left ls) → WeightsFit ls → held_rects ls ≡ rects_in ls
unfolding held_rects rects_in
rects_exact left [] y w = refl
rects_exact left (l ∷ ls) y w =
    let s = rects_split left l ls y in
    ap₂ ◌∷◌ (rect_exact l.words s.1 w.0) (rects_exact (left - 1) ls s.2 w.1)

pub rects_length : (ls : List Line) → length (rects_in ls) ≡ length ls
unfolding rects_in
rects_length [] = refl
rects_length (l ∷ ls) = ap suc (rects_length ls)

rects_most : (left : ℕ) (ls : List Line) → AllYes (rects_ask left ls) → length ls ≤ left
rects_most left [] y = omega arith
rects_most left (l ∷ ls) y =
    let s = rects_split left l ls y in
    let p = s.0 in
    let r = rects_most (left - 1) ls s.2 in
    omega arith

rects_fine : (left : ℕ) (ls : List Line) → AllYes (rects_ask left ls) → WeightsFit ls → Fines (rects_in ls)
unfolding rects_in
rects_fine left [] y w k h = absurd (omega arith)
rects_fine left (l ∷ ls) y w zero h = let s = rects_split left l ls y in (subst T (sym s.1) tt, subst T (sym w.0) tt)
rects_fine left (l ∷ ls) y w (suc k) h = let s = rects_split left l ls y in rects_fine (left - 1) ls s.2 w.1 k (omega arith)

-- ---- the whole

module _ (text : List ℕ) (head : AllYes (head_asks text)) (tail : AllYes (tail_asks text)) where
  abbrev c : Contents
  c = contents_of text

  abbrev ls : List Line
  ls = lines_with 4 text

  parts : AllYes (lines_ask 1 (lines_of text)) × AllYes (numbers_ask text c)
  unfolding head_asks
  parts =
      let a = yes_append (lines_ask 1 (lines_of text)) (all_once text ++ numbers_ask text c) head in
      (a.0, (yes_append (all_once text) (numbers_ask text c) a.1).1)

  pub numbers_good : HeadTests c.b c.q1 c.q2 c.q3 c.t c.w
  unfolding numbers_ask
  numbers_good = let y = parts.1 in record { bits = y.0; drops = y.1.0; word = y.1.1.0 }

  weights : WeightsFit ls
  unfolding lines_with
  weights = weights_fit 1 (lines_of text) parts.0

  ends : AllYes (rects_ask 16 ls) × (1 ≤ length ls)
  unfolding tail_asks
  ends =
      let a = yes_append (rects_ask 16 ls) (asks 9 (leb 1 (length ls)) ∷ []) tail in
      (a.0, leb-true 1 (length ls) a.1.0)

  pub within_most_lem : length c.rects ≤ 16
  within_most_lem = let a = rects_most 16 ls ends.0 in let e = rects_length ls in omega arith

  pub shaped_text : Shaped c
  shaped_text =
      record {
        head = numbers_good;
        some = let a = ends.1 in let e = rects_length ls in omega arith;
        most = within_most_lem;
        fine = rects_fine 16 ls ends.0 weights;
      }

  -- no number is held
  pub contents_exact : held_contents text ≡ c
  unfolding held_at drops_good
  contents_exact =
      let h = numbers_good in
      let b = bits_most c.b h.bits in
      let d = and_yes (ltb c.q1 c.b) (leb c.q2 8 && leb c.q3 8) (subst T (sym h.drops) tt) in
      let d1 = ltb→lt c.q1 c.b d.0 in
      let d2 = and_yes (leb c.q2 8) (leb c.q3 8) d.1 in
      let d3 = leb→le c.q2 8 d2.0 in
      let d4 = leb→le c.q3 8 d2.1 in
      let w = word_bounds c.t c.w h.word in
      let w1 = w.0 in
      let w2 = w.2 in
      let e1 : (held_contents text).b ≡ c.b = omega arith in
      let e2 : (held_contents text).q1 ≡ c.q1 = omega arith in
      let e3 : (held_contents text).q2 ≡ c.q2 = omega arith in
      let e4 : (held_contents text).q3 ≡ c.q3 = omega arith in
      let e5 : (held_contents text).t ≡ c.t = omega arith in
      let e6 : (held_contents text).w ≡ c.w = omega arith in
      let e7 = rects_exact 16 ls ends.0 weights in
      λ i. record { b = e1 i; q1 = e2 i; q2 = e3 i; q3 = e4 i; t = e5 i; w = e6 i; rects = e7 i }

  -- question 10 as it is asked of the struct
  pub fitting_text : fitting (table_of c) ≡ value_good c
  unfolding fitting
  fitting_text =
      let h = numbers_good in
      rw (h.bits, h.drops, h.word, le-leb (length c.rects) 16 within_most_lem) (ap value_good (contents-table_of c within_most_lem))
