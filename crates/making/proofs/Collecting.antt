-- The rectangles' lines, a line at a time.
-- Assumes nothing.
use Rattle.std.proofs.Common.{ℕ, suc, ◌+◌, ◌-◌, ◌≤◌, ◌<◌, arith, ◌≡◌, refl, sym, ap, ap₂, ◌∙◌, Bool, true, false, cond, List, [], ◌∷◌, ◌++◌, append_assoc, append-nil, leb, length, length-append, leb-true}
use Rattle.std.specs.Prelude.{Ok, Err}
use Rattle.arith.specs.Tab.{tab}
use Rattle.layout.specs.declared.Table.{Table}
use Rattle.layout.specs.declared.asking.Refusal.{Refusal}
use Rattle.layout.specs.declared.asking.Question.{Question as Kind}
use Rattle.layout.specs.Questions.{number_of, asked as asked_of}
use Rattle.layout.specs.Contents.{Contents, contents, table_of}
use Rattle.layout.specs.Answers.{said, accepted, refused as Refused, asks, first_no, verdict, Question}
use Rattle.layout.proofs.Questions.{on_verdict, first_append, first_verdict, all_yes}
use Rattle.limits.specs.Limits.{rect_good}
use Rattle.limits.proofs.Values.{slots}
use Rattle.table.specs.Format.{Outcome, refused, loaded, plus, at_end, given, handed_out}
use Rattle.table.proofs.Structs.{with_rects, contents-table_of, placed, placed_is}
use Rattle.forms.specs.Forms.{asks_at, held_rect}
use Rattle.forms.proofs.Exact.{rect_held}
use Rattle.making.specs.Making.{Line, lines_with, rect_asks, rects_ask, tail_asks}
use Rattle.making.specs.Steps.{held_head, held_rects, held_contents, collected}

-- rectangle after rectangle: questions 6 and 8, and at the end 9
pub collect_of : (left : ℕ) → List Line → Contents → Outcome
collect_of left [] c = at_end c
collect_of left (l ∷ ls) c = first_no (rect_asks left l) refused (collect_of (left - 1) ls (plus c (held_rect l.words)))

pub held_length : (ls : List Line) → length (held_rects ls) ≡ length ls
unfolding held_rects
held_length [] = refl
held_length (l ∷ ls) = ap suc (held_length ls)

-- the questions as one list
abbrev tail : (left : ℕ) → List Line → Contents → List Question
tail left ls c = rects_ask left ls ++ (asks 9 (leb 1 (length (c.rects ++ held_rects ls))) ∷ [])

collect_list : (left : ℕ) (ls : List Line) (c : Contents)
    → collect_of left ls c ≡ first_no (tail left ls c) refused (loaded (with_rects c (c.rects ++ held_rects ls)))
unfolding collect_of rects_ask held_rects
collect_list left [] c = ap (λ rs. at_end (with_rects c rs)) (sym (append-nil c.rects))
collect_list left (l ∷ ls) c =
    let r = held_rect l.words in
    let more = append_assoc c.rects (r ∷ []) (held_rects ls) in
    ap (first_no (rect_asks left l) refused)
    (collect_list (left - 1) ls (plus c r)
    ∙ ap (λ rs. first_no (rects_ask (left - 1) ls ++ (asks 9 (leb 1 (length rs)) ∷ [])) refused (loaded (with_rects c rs))) more)
    ∙ sym (first_append (rect_asks left l) (rects_ask (left - 1) ls ++ (asks 9 (leb 1 (length (c.rects ++ (r ∷ held_rects ls)))) ∷ [])) refused
    (loaded (with_rects c (c.rects ++ (r ∷ held_rects ls)))))
    ∙ sym (ap (λ qs. first_no qs refused (loaded (with_rects c (c.rects ++ (r ∷ held_rects ls)))))
    (append_assoc (rect_asks left l) (rects_ask (left - 1) ls) (asks 9 (leb 1 (length (c.rects ++ (r ∷ held_rects ls)))) ∷ [])))

pub collect_all : (text : List ℕ) → collect_of 16 (lines_with 4 text) (held_head text) ≡ collected text
unfolding tail_asks
collect_all text =
    collect_list 16 (lines_with 4 text) (held_head text)
    ∙ ap (λ n. first_no (rects_ask 16 (lines_with 4 text) ++ (asks 9 (leb 1 n) ∷ [])) refused (loaded (held_contents text))) (held_length (lines_with 4 text))

-- ---- a turn of the loop

-- what is left, collected from here, comes to the whole
pub record Collected (text : List ℕ) (t : Table) (ls : List Line) : Type 0 where
  pub is : t ≡ table_of (contents t)
  pub most : t.count ≤ 16
  pub same : collect_of (16 - t.count) ls (contents t) ≡ collected text

-- it begins with the header's table and all the lines
pub begun : (text : List ℕ) (t : Table) (ls : List Line) → t ≡ table_of (held_head text) → ls ≡ lines_with 4 text
    → Collected text t ls × (length t.rects ≡ 16)
unfolding tab
begun text t ls e f =
    let same = collect_all text in
    rw (e, f) (record { is = refl; most = omega arith; same = same }, refl)

module _ {text : List ℕ} {t : Table} {ls : List Line} (k : Collected text t ls) where
  -- there is no more line
  pub collect_ends : ls ≡ [] → at_end (contents t) ≡ collected text
  unfolding collect_of
  collect_ends e = sym (ap (λ l. collect_of (16 - t.count) l (contents t)) e) ∙ k.same

  module _ (l : Line) (rest : List Line) (more : ls ≡ l ∷ rest) where
    step : first_no (rect_asks (16 - t.count) l) refused (collect_of (16 - t.count - 1) rest (plus (contents t) (held_rect l.words))) ≡ collected text
    unfolding collect_of
    step = sym (ap (λ x. collect_of (16 - t.count) x (contents t)) more) ∙ k.same

    -- the questions on the line, with the rectangle as it is held
    abbrev asked : List Question
    asked = asks_at l.place 6 (leb 1 (16 - t.count)) ∷ asks_at l.place 8 (rect_good (held_rect l.words)) ∷ []

    asked_held : verdict asked ≡ verdict (rect_asks (16 - t.count) l)
    unfolding rect_asks
    asked_held = ap (λ g. verdict (asks_at l.place 6 (leb 1 (16 - t.count)) ∷ asks_at l.place 8 g ∷ [])) (rect_held l.words)

    -- a no
    pub collect_stops : {n p : ℕ} → verdict asked ≡ Refused n p → refused n p ≡ collected text
    collect_stops e =
        sym (first_verdict (rect_asks (16 - t.count) l) refused _
        ∙ ap (λ v. on_verdict v refused (collect_of (16 - t.count - 1) rest (plus (contents t) (held_rect l.words)))) (sym asked_held ∙ e))
        ∙ step

    module _ (yes : verdict asked ≡ accepted []) where
      pub free : t.count < 16
      free =
          let y = all_yes asked yes in
          let r = leb-true 1 (16 - t.count) y.0 in
          omega arith

      next_is : placed t (held_rect l.words) ≡ table_of (plus (contents t) (held_rect l.words))
      next_is =
          ap (λ x. placed x (held_rect l.words)) k.is
          ∙ placed_is (contents t) (held_rect l.words) (let e = slots t in let g = free in omega arith)

      next_contents : contents (placed t (held_rect l.words)) ≡ plus (contents t) (held_rect l.words)
      next_contents =
          ap contents next_is
          ∙ contents-table_of (plus (contents t) (held_rect l.words))
          (let e = slots t in let g = free in let l = length-append (contents t).rects (held_rect l.words ∷ []) in omega arith)

      pub collect_goes : Collected text (placed t (held_rect l.words)) rest
      collect_goes =
          let g = free in
          let z : 16 - (t.count + 1) ≡ 16 - t.count - 1 = omega arith in
          record {
            is = next_is ∙ ap table_of (sym next_contents);
            most = omega arith;
            same = ap₂ (λ n c. collect_of n rest c) z next_contents
                ∙ sym (first_verdict (rect_asks (16 - t.count) l) refused _
                ∙ ap (λ v. on_verdict v refused (collect_of (16 - t.count - 1) rest (plus (contents t) (held_rect l.words)))) (sym asked_held ∙ yes))
                ∙ step;
          }

  -- question 9 at the end
  module _ (none : ls ≡ []) where
    pub nine_no : leb 1 t.count ≡ false → refused 9 0 ≡ collected text
    nine_no e = sym (ap (λ b. cond b (loaded (contents t)) (refused 9 0)) (ap (leb 1) (slots t) ∙ e)) ∙ collect_ends none

    pub nine_yes : leb 1 t.count ≡ true → loaded (contents t) ≡ collected text
    nine_yes e = sym (ap (λ b. cond b (loaded (contents t)) (refused 9 0)) (ap (leb 1) (slots t) ∙ e)) ∙ collect_ends none

-- a question that is passed is answered yes
pub asked_yes : (q : Kind) (b : Bool) → asked_of q b ≡ Ok tt → b ≡ true
asked_yes q true e = refl
asked_yes q false e = absurd (let z = ap said e in let k = ap (λ s. s.kind) z in omega arith)

-- ---- what is handed out

pub given_no : {o : Outcome} (r : Refusal) → refused (number_of r.question) r.place ≡ o → given (Err r) ≡ handed_out o
given_no r e = ap handed_out e

pub given_yes : {o : Outcome} (t : Table) → t ≡ table_of (contents t) → loaded (contents t) ≡ o → given (Ok t) ≡ handed_out o
given_yes t is e = ap (λ x. given (Ok x)) is ∙ ap handed_out e
