-- A file that is loaded: its table is within the limits, and written out again it has the same bytes.
-- Assumes nothing.
use Rattle.std.proofs.Common.{ℕ, zero, suc, ◌+◌, ◌*◌, ◌≤◌, ◌<◌, arith, eq-zero-or-pos, inl, inr, ◌≡◌, refl, sym, ap, ap₂, ◌∙◌, subst, Bool, true, false, cond, ◌&&◌, List, [], ◌∷◌, ◌++◌, append_assoc, append-nil, T, leb, eqb, eqb→eq, length, get_or, drop, length-drop, drop-cons, get_or-drop, leb-true}
use Rattle.std.proofs.Math.Facts.{and_yes}
use Rattle.arith.specs.Twos.{signed, unsigned, fits_signed}
use Rattle.arith.proofs.Words.{unsigned_signed, signed_fits}
use Rattle.layout.specs.declared.Rect.{Rect}
use Rattle.layout.specs.declared.Table.{Table}
use Rattle.layout.specs.Contents.{Contents, no_rect, table_of}
use Rattle.limits.specs.Limits.{rect_good, value_good}
use Rattle.layout.specs.Answers.{refused as refusal, accepted, Question, verdict}
use Rattle.layout.specs.Questions.{number_of}
use Rattle.layout.specs.declared.asking.Refusal.{Refusal}
use Rattle.std.specs.Prelude.{Result, Ok, Err}
use Rattle.layout.proofs.Answers.{same_refusal}
use Rattle.layout.proofs.Questions.{on_verdict}
use Rattle.table.specs.Format.{Bytes, Outcome, refused, loaded, marked, head_of, rect_of, plus, header_asks, field_asks, at_end, fields_of, parse_of, fit_of, load_of, said_of, table_from, given, handed_out, encode_rect, encode_rects, encode_head, encode}
use Rattle.limits.proofs.Asked.{HeadTests}
use Rattle.table.proofs.Asked.{Decided, yes, no, decided, FieldTests, field_accepted, HeaderTests, header_accepted}
use Rattle.table.proofs.Structs.{with_rects}
use Rattle.table.proofs.Fields.{fields_end, fields_step, parse_step}

-- ---- verdicts and outcomes

-- what follows questions is loaded only where they were answered yes
after_loaded : (qs : List Question) (next : Outcome) (c : Contents) → on_verdict (verdict qs) refused next ≡ loaded c
    → (verdict qs ≡ accepted []) × (next ≡ loaded c)
after_loaded qs next c e = go (decided qs)
  where
    go : Decided (verdict qs) → (verdict qs ≡ accepted []) × (next ≡ loaded c)
    go (yes v) = (v, sym (ap (λ s. on_verdict s refused next) v) ∙ e)
    go (no n p v) = absurd (let z = sym (ap (λ s. on_verdict s refused next) v) ∙ e in let y : ◌≡◌ {A = ℕ} 0 1 = cc in omega arith)

pub same_contents : {c d : Contents} → loaded c ≡ loaded d → c ≡ d
same_contents e = cc

pub end_loaded : (c d : Contents) → at_end c ≡ loaded d → (1 ≤ length c.rects) × (c ≡ d)
end_loaded c d e = go (leb 1 (length c.rects)) (leb-true 1 (length c.rects)) e
  where
    go : (b : Bool) → (b ≡ true → 1 ≤ length c.rects) → cond b (loaded c) (refused 9 0) ≡ loaded d → (1 ≤ length c.rects) × (c ≡ d)
    go true f e = (f refl, same_contents e)
    go false f e = absurd (let z : ◌≡◌ {A = ℕ} 0 1 = cc in omega arith)

-- an outcome, from what is said of it
pub refused_from : (o : Outcome) (n p : ℕ) → said_of o ≡ refusal n p → o ≡ refused n p
refused_from (refused m q) n p e = same_refusal refused e
refused_from (loaded c) n p e = absurd (let z = ap (λ s. s.kind) e in omega arith)

pub loaded_from : (o : Outcome) → said_of o ≡ accepted [] → (c : Contents) × (o ≡ loaded c)
loaded_from (refused m q) e = absurd (let z = ap (λ s. s.kind) e in omega arith)
loaded_from (loaded c) e = (c, refl)

-- ---- the bytes of a field

nine : (bs : List ℕ) → 9 ≤ length bs
    → bs ≡ get_or bs 0 0 ∷ get_or bs 1 0 ∷ get_or bs 2 0 ∷ get_or bs 3 0 ∷ get_or bs 4 0 ∷ get_or bs 5 0 ∷ get_or bs 6 0 ∷ get_or bs 7 0 ∷ get_or bs 8 0 ∷ drop 9 bs
nine bs h =
    drop-cons bs 0 0 (omega arith)
    ∙ ap (λ l. get_or bs 0 0 ∷ l) (drop-cons bs 1 0 (omega arith)
    ∙ ap (λ l. get_or bs 1 0 ∷ l) (drop-cons bs 2 0 (omega arith)
    ∙ ap (λ l. get_or bs 2 0 ∷ l) (drop-cons bs 3 0 (omega arith)
    ∙ ap (λ l. get_or bs 3 0 ∷ l) (drop-cons bs 4 0 (omega arith)
    ∙ ap (λ l. get_or bs 4 0 ∷ l) (drop-cons bs 5 0 (omega arith)
    ∙ ap (λ l. get_or bs 5 0 ∷ l) (drop-cons bs 6 0 (omega arith)
    ∙ ap (λ l. get_or bs 6 0 ∷ l) (drop-cons bs 7 0 (omega arith)
    ∙ ap (λ l. get_or bs 7 0 ∷ l) (drop-cons bs 8 0 (omega arith)))))))))

-- the three bytes of a mark
mark_bytes : (tag : ℕ) (bs : List ℕ) → marked tag bs ≡ true → (get_or bs 0 0 ≡ tag) × (get_or bs 1 0 ≡ 0) × (get_or bs 2 0 ≡ 6)
unfolding marked
mark_bytes tag bs e =
    let t = subst T (sym e) tt in
    let a = and_yes (leb 3 (length bs)) (eqb (get_or bs 0 0) tag && (eqb (get_or bs 1 0) 0 && eqb (get_or bs 2 0) 6)) t in
    let b = and_yes (eqb (get_or bs 0 0) tag) (eqb (get_or bs 1 0) 0 && eqb (get_or bs 2 0) 6) a.1 in
    let c = and_yes (eqb (get_or bs 1 0) 0) (eqb (get_or bs 2 0) 6) b.1 in
    (eqb→eq _ _ b.0, eqb→eq _ _ c.0, eqb→eq _ _ c.1)

-- a field is written out as it was read
pub field_again : (left : ℕ) (bs : List ℕ) → Bytes bs → FieldTests left bs → encode_rect (rect_of bs) ++ drop 9 bs ≡ bs
unfolding encode_rect
field_again left bs byte f =
    let w = f.whole in
    let m = mark_bytes 2 bs f.mark in
    let at : (k : ℕ) → k < 9 → get_or bs k 0 < 256 = λ k h. byte k (omega arith) in
    let one : (k : ℕ) → k < 9 → unsigned 8 (signed 8 (get_or bs k 0)) ≡ get_or bs k 0 = λ k h. unsigned_signed 8 (get_or bs k 0) (omega arith) (at k h) in
    let x = at 7 (omega arith) in
    let y = at 8 (omega arith) in
    let two = unsigned_signed 16 (get_or bs 7 0 * 256 + get_or bs 8 0) (omega arith) (omega arith) in
    sym (nine bs w
    ∙ rw (
      m.0,
      m.1,
      m.2,
      one 3 (omega arith),
      one 4 (omega arith),
      one 5 (omega arith),
      one 6 (omega arith),
      two,
    )
    (ap₂ (λ h l. 2 ∷ 0 ∷ 6 ∷ get_or bs 3 0 ∷ get_or bs 4 0 ∷ get_or bs 5 0 ∷ get_or bs 6 0 ∷ h ∷ l ∷ drop 9 bs) (omega arith) (omega arith)))

-- so is a header
pub header_again : (bs : List ℕ) → HeaderTests bs → encode_head (head_of bs) ++ drop 9 bs ≡ bs
unfolding encode_head
header_again bs h = let m = mark_bytes 1 bs h.mark in sym (nine bs h.whole ∙ rw (m.0, m.1, m.2))

-- the weight that two bytes carry has 16 bits
pub weight_fits : (bs : List ℕ) → Bytes bs → 9 ≤ length bs → T (fits_signed 16 (rect_of bs).weight)
weight_fits bs byte w =
    let x = byte 7 (omega arith) in
    let y = byte 8 (omega arith) in
    signed_fits 16 (get_or bs 7 0 * 256 + get_or bs 8 0) (omega arith) (omega arith)

pub bytes_drop : (n : ℕ) (bs : List ℕ) → Bytes bs → Bytes (drop n bs)
bytes_drop n bs byte k h =
    let e = length-drop n bs in
    subst (λ x. x < 256) (sym (get_or-drop n bs k 0)) (byte (n + k) (omega arith))

-- ---- the fields

-- what reading the fields of bs, from c on, says of the table d that it comes to: it is c with some rectangles more
pub record Rest (left : ℕ) (bs : List ℕ) (c d : Contents) : Type 0 where
  pub rects : List Rect
  pub is : d ≡ with_rects c (c.rects ++ rects)
  pub few : length rects ≤ left
  pub some : 1 ≤ length d.rects
  pub good : (k : ℕ) → k < length rects → rect_good (get_or rects k no_rect) ≡ true
  pub weights : Bytes bs → (k : ℕ) → k < length rects → T (fits_signed 16 (get_or rects k no_rect).weight)
  pub again : Bytes bs → encode_rects rects ≡ bs

no_bytes : (bs : List ℕ) → length bs ≡ 0 → bs ≡ []
no_bytes [] e = refl
no_bytes (x ∷ bs) e = absurd (omega arith)

rest_none : (left : ℕ) (bs : List ℕ) (c d : Contents) → length bs ≡ 0 → at_end c ≡ loaded d → Rest left bs c d
unfolding encode_rects
rest_none left bs c d z e =
    let h = end_loaded c d e in
    record {
      rects = [];
      is = sym h.1 ∙ ap (with_rects c) (sym (append-nil c.rects));
      few = omega arith;
      some = subst (λ x. 1 ≤ length x.rects) h.1 h.0;
      good = λ k l. absurd (omega arith);
      weights = λ _ k l. absurd (omega arith);
      again = λ _. sym (no_bytes bs z);
    }

rest_more : (left : ℕ) (bs : List ℕ) (c d : Contents) → FieldTests (suc left) bs → Rest left (drop 9 bs) (plus c (rect_of bs)) d → Rest (suc left) bs c d
unfolding encode_rects
rest_more left bs c d f r =
    record {
      rects = rect_of bs ∷ r.rects;
      is = r.is ∙ ap (with_rects c) (append_assoc c.rects (rect_of bs ∷ []) r.rects);
      few = let h = r.few in omega arith;
      some = r.some;
      good = good;
      weights = weights;
      again = λ byte. ap (λ l. encode_rect (rect_of bs) ++ l) (r.again (bytes_drop 9 bs byte)) ∙ field_again (suc left) bs byte f;
    }
  where
    good : (k : ℕ) → k < suc (length r.rects) → rect_good (get_or (rect_of bs ∷ r.rects) k no_rect) ≡ true
    good zero h = f.edges
    good (suc k) h = r.good k (omega arith)

    weights : Bytes bs → (k : ℕ) → k < suc (length r.rects) → T (fits_signed 16 (get_or (rect_of bs ∷ r.rects) k no_rect).weight)
    weights byte zero h = weight_fits bs byte f.whole
    weights byte (suc k) h = r.weights (bytes_drop 9 bs byte) k (omega arith)

pub fields_sound : (left : ℕ) (bs : List ℕ) (c d : Contents) → fields_of left bs c ≡ loaded d → Rest left bs c d
fields_sound zero bs c d e =
    elim (eq-zero-or-pos (length bs)) [
      | inl z ↦ rest_none zero bs c d z (sym (fields_end zero bs c z) ∙ e)
      | inr p ↦
          let a = after_loaded (field_asks zero bs) _ d (sym (fields_step zero bs c p) ∙ e) in
          absurd (let r = (field_accepted zero bs a.0).room in omega arith)
    ]
fields_sound (suc left) bs c d e =
    elim (eq-zero-or-pos (length bs)) [
      | inl z ↦ rest_none (suc left) bs c d z (sym (fields_end (suc left) bs c z) ∙ e)
      | inr p ↦
          let a = after_loaded (field_asks (suc left) bs) _ d (sym (fields_step (suc left) bs c p) ∙ e) in
          rest_more left bs c d (field_accepted (suc left) bs a.0) (fields_sound left (drop 9 bs) (plus c (rect_of bs)) d a.1)
    ]

-- ---- the whole file

-- what questions 1 to 9 say of the table c that they come to
pub record Parsed (bs : List ℕ) (c : Contents) : Type 0 where
  pub head : HeadTests c.b c.q1 c.q2 c.q3 c.t c.w
  pub some : 1 ≤ length c.rects
  pub most : length c.rects ≤ 16
  pub good : (k : ℕ) → k < length c.rects → rect_good (get_or c.rects k no_rect) ≡ true
  pub weights : Bytes bs → (k : ℕ) → k < length c.rects → T (fits_signed 16 (get_or c.rects k no_rect).weight)
  pub again : Bytes bs → encode c ≡ bs

parsed : (bs : List ℕ) (c : Contents) → HeaderTests bs → Rest 16 (drop 9 bs) (head_of bs) c → Parsed bs c
unfolding encode_head encode
parsed bs c h r =
    subst (Parsed bs) (sym r.is)
    record {
      head = h.head;
      some = subst (λ x. 1 ≤ length x.rects) r.is r.some;
      most = r.few;
      good = r.good;
      weights = λ byte. r.weights (bytes_drop 9 bs byte);
      again = λ byte. ap (λ l. encode_head (head_of bs) ++ l) (r.again (bytes_drop 9 bs byte)) ∙ header_again bs h;
    }

pub parse_sound : (bs : List ℕ) (c : Contents) → parse_of bs ≡ loaded c → Parsed bs c
parse_sound bs c e =
    let a = after_loaded (header_asks bs) _ c (sym (parse_step bs) ∙ e) in
    parsed bs c (header_accepted bs a.0) (fields_sound 16 (drop 9 bs) (head_of bs) c a.1)

-- question 10 lets through what was read, where its answer is yes
pub fit_loaded : (o : Outcome) (c : Contents) → fit_of o ≡ loaded c → (o ≡ loaded c) × (value_good c ≡ true)
fit_loaded (refused n p) c e = absurd (let z : ◌≡◌ {A = ℕ} 0 1 = cc in omega arith)
fit_loaded (loaded d) c e = go (value_good d) refl e
  where
    go : (b : Bool) → value_good d ≡ b → cond b (loaded d) (refused 10 0) ≡ loaded c → (loaded d ≡ loaded c) × (value_good c ≡ true)
    go true y e = (e, subst (λ x. value_good x ≡ true) (same_contents e) y)
    go false y e = absurd (let z : ◌≡◌ {A = ℕ} 0 1 = cc in omega arith)

pub load_sound : (bs : List ℕ) (c : Contents) → load_of bs ≡ loaded c → Parsed bs c × (value_good c ≡ true)
unfolding load_of
load_sound bs c e = let a = fit_loaded (parse_of bs) c e in (parse_sound bs c a.0, a.1)

-- ---- what the loading call hands out

-- the file was accepted: the struct holds its table, whose header and number of rectangles are within the limits
pub record Read (bs : List ℕ) (t : Table) : Type 0 where
  pub contents : Contents
  pub is : load_of bs ≡ loaded contents
  pub table : t ≡ table_of contents
  pub head : HeadTests t.b t.q1 t.q2 t.q3 t.t t.w
  pub few : t.count ≤ 16

pub read : (bs : List ℕ) {v : Result Table Refusal} {t : Table} → given v ≡ handed_out (load_of bs) → v ≡ Ok t → Read bs t
read bs {v} {t} e a =
    let g = sym (ap given a) ∙ e in
    let l = loaded_from (load_of bs) (sym (ap (λ h. h.said) g)) in
    let is = ap (λ h. h.table) g ∙ ap table_from l.1 in
    let p = (load_sound bs l.0 l.1).0 in
    record {
      contents = l.0;
      is = l.1;
      table = is;
      head = subst (λ u. HeadTests u.b u.q1 u.q2 u.q3 u.t u.w) (sym is) p.head;
      few = subst (λ u. u.count ≤ 16) (sym is) p.most;
    }

-- it was refused
pub not_read : (bs : List ℕ) {v : Result Table Refusal} {r : Refusal} → given v ≡ handed_out (load_of bs) → v ≡ Err r
    → load_of bs ≡ refused (number_of r.question) r.place
not_read bs {v} {r} e a = refused_from (load_of bs) _ _ (sym (ap (λ h. h.said) (sym (ap given a) ∙ e)))
