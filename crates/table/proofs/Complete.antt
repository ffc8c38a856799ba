-- A table within the limits, written out: loading its file gives the table back.
-- Assumes nothing.
use Rattle.std.proofs.Common.{ℕ, zero, suc, ◌+◌, ◌-◌, ◌/◌, ◌%◌, ◌≤◌, ◌<◌, arith, div-add-mod', ◌≡◌, refl, sym, ap, ◌∙◌, subst, Bool, cond, ◌&&◌, List, [], ◌∷◌, ◌++◌, append_assoc, append-nil, T, leb, ltb, leb→le, ltb→lt, length, get_or, drop, le-leb}
use Rattle.std.proofs.Math.Facts.{and_yes, yes_and}
use Rattle.arith.specs.All.{all}
use Rattle.arith.specs.Twos.{signed, unsigned, fits_signed}
use Rattle.arith.proofs.Alls.{all_at, all_of}
use Rattle.arith.proofs.Bools.{true_of}
use Rattle.arith.proofs.Words.{signed-unsigned, unsigned-lt}
use Rattle.layout.specs.declared.Rect.{Rect}
use Rattle.layout.specs.Contents.{Contents, no_rect}
use Rattle.limits.specs.Limits.{bits_good, drops_good, word_good, rect_good, value_good, shaped, within, head_asks}
use Rattle.layout.specs.Answers.{accepted, verdict}
use Rattle.table.specs.Format.{Bytes, Outcome, loaded, refused, marked, rect_of, plus, header_asks, field_asks, fields_of, parse_of, fit_of, load_of, encode_head, encode_rect, encode_rects, encode}
use Rattle.limits.proofs.Asked.{HeadTests}
use Rattle.limits.proofs.Bounds.{rect_bounds, edge_fits}
use Rattle.table.proofs.Structs.{with_rects}
use Rattle.table.proofs.Fields.{fields_end, fields_step, parse_step}

-- ---- one field

-- a rectangle that question 8 accepts, with a weight of 16 bits
abbrev pub Fine : Rect → Type 0
Fine r = T (rect_good r) × T (fits_signed 16 r.weight)

pub read_back : (r : Rect) (rest : List ℕ) → Fine r → rect_of (encode_rect r ++ rest) ≡ r
unfolding encode_rect
read_back r rest f =
    let b = rect_bounds r f.0 in
    let x = b.row in
    let y = b.col in
    let w = div-add-mod' (unsigned 16 r.weight) 256 in
    let p = x.above in
    let q = y.above in
    let m = x.most in
    let n = y.most in
    let e0 = signed-unsigned 8 r.leadrow (omega arith) (edge_fits x.lead_is x.most) in
    let e1 = signed-unsigned 8 r.leadcol (omega arith) (edge_fits y.lead_is y.most) in
    let e2 = signed-unsigned 8 r.trailrow (omega arith) (edge_fits x.trail_is (omega arith)) in
    let e3 = signed-unsigned 8 r.trailcol (omega arith) (edge_fits y.trail_is (omega arith)) in
    let e4 = ap (signed 16) w ∙ signed-unsigned 16 r.weight (omega arith) f.1 in
    λ i. record { leadrow = e0 i; leadcol = e1 i; trailrow = e2 i; trailcol = e3 i; weight = e4 i }

pub long : (r : Rect) (rest : List ℕ) → 9 ≤ length (encode_rect r ++ rest)
unfolding encode_rect
long r rest = omega arith

pub field_read : (left : ℕ) (r : Rect) (rest : List ℕ) → Fine r → verdict (field_asks (suc left) (encode_rect r ++ rest)) ≡ accepted []
unfolding field_asks marked encode_rect
field_read left r rest f =
    let l = long r rest in
    rw (read_back r rest f, le-leb 1 (suc left) (omega arith), le-leb 3 (length (encode_rect r ++ rest)) (omega arith), le-leb 9 (length (encode_rect r ++ rest)) l, true_of (rect_good r) f.0)

pub field_gone : (r : Rect) (rest : List ℕ) → drop 9 (encode_rect r ++ rest) ≡ rest
unfolding encode_rect
field_gone r rest = refl

-- ---- the fields

abbrev pub Fines : List Rect → Type 0
Fines rs = (k : ℕ) → k < length rs → Fine (get_or rs k no_rect)

-- rectangles that are read one after the other: what is read behind their fields, with them in the table
module _ (read : (left : ℕ) → List ℕ → Contents → Outcome)
    (on : (left : ℕ) (r : Rect) (rest : List ℕ) (c : Contents) → Fine r → read (suc left) (encode_rect r ++ rest) c ≡ read left rest (plus c r)) where
  pub through : (n left : ℕ) (rs : List Rect) (rest : List ℕ) (c : Contents) → n ≡ length rs + left → Fines rs
      → read n (encode_rects rs ++ rest) c ≡ read left rest (with_rects c (c.rects ++ rs))
  unfolding encode_rects encode_rect
  through n left [] rest c e f =
      let z : n ≡ left = omega arith in
      ap (λ k. read k rest c) z ∙ ap (λ l. read left rest (with_rects c l)) (sym (append-nil c.rects))
  through zero left (r ∷ rs) rest c e f = absurd (omega arith)
  through (suc n) left (r ∷ rs) rest c e f =
      on n r (encode_rects rs ++ rest) c (f zero (omega arith))
      ∙ through n left rs rest (plus c r) (omega arith) (λ k p. f (suc k) (omega arith))
      ∙ ap (λ l. read left rest (with_rects c l)) (append_assoc c.rects (r ∷ []) rs)

fields_on : (left : ℕ) (r : Rect) (rest : List ℕ) (c : Contents) → Fine r → fields_of (suc left) (encode_rect r ++ rest) c ≡ fields_of left rest (plus c r)
fields_on left r rest c f =
    let l = long r rest in
    fields_step (suc left) (encode_rect r ++ rest) c (omega arith)
    ∙ rw (field_read left r rest f, read_back r rest f, field_gone r rest)

pub fields_through : (n left : ℕ) (rs : List Rect) (rest : List ℕ) (c : Contents) → n ≡ length rs + left → Fines rs
    → fields_of n (encode_rects rs ++ rest) c ≡ fields_of left rest (with_rects c (c.rects ++ rs))
fields_through = through fields_of fields_on

fields_read : (left : ℕ) (rs : List Rect) (c : Contents) → length rs ≤ left → Fines rs → 1 ≤ length (c.rects ++ rs)
    → fields_of left (encode_rects rs) c ≡ loaded (with_rects c (c.rects ++ rs))
fields_read left rs c h f n =
    ap (λ bs. fields_of left bs c) (sym (append-nil (encode_rects rs)))
    ∙ fields_through left (left - length rs) rs [] c (omega arith) f
    ∙ fields_end (left - length rs) [] (with_rects c (c.rects ++ rs)) refl
    ∙ rw (le-leb 1 _ n)

-- ---- the whole file

pub head_read : (c : Contents) (more : List ℕ) → HeadTests c.b c.q1 c.q2 c.q3 c.t c.w
    → verdict (header_asks (encode_head c ++ more)) ≡ accepted []
unfolding header_asks head_asks marked encode_head
head_read c more h =
    rw (le-leb 3 (length (encode_head c ++ more)) (omega arith), le-leb 9 (length (encode_head c ++ more)) (omega arith), h.bits, h.drops, h.word)

-- the parts of being within the limits but for question 10
pub record Shaped (c : Contents) : Type 0 where
  pub head : HeadTests c.b c.q1 c.q2 c.q3 c.t c.w
  pub some : 1 ≤ length c.rects
  pub most : length c.rects ≤ 16
  pub fine : Fines c.rects

abbrev fine_at : Contents → ℕ → Bool
fine_at c k = rect_good (get_or c.rects k no_rect) && fits_signed 16 (get_or c.rects k no_rect).weight

pub shaped_parts : (c : Contents) → T (shaped c) → Shaped c
unfolding shaped
shaped_parts c t =
    let a = and_yes (bits_good c.b) _ t in
    let b = and_yes (drops_good c.b c.q1 c.q2 c.q3) _ a.1 in
    let d = and_yes (word_good c.t c.w) _ b.1 in
    let e = and_yes (leb 1 (length c.rects)) _ d.1 in
    let f = and_yes (leb (length c.rects) 16) (all (length c.rects) (fine_at c)) e.1 in
    record {
      head = record { bits = true_of _ a.0; drops = true_of _ b.0; word = true_of _ d.0 };
      some = leb→le _ _ e.0;
      most = leb→le _ _ f.0;
      fine = λ k l. and_yes (rect_good (get_or c.rects k no_rect)) (fits_signed 16 (get_or c.rects k no_rect).weight) (all_at _ _ f.1 k l);
    }

pub shaped_of : (c : Contents) → Shaped c → T (shaped c)
unfolding shaped
shaped_of c s =
    let each = all_of (length c.rects) (fine_at c) (λ k l. yes_and (rect_good (get_or c.rects k no_rect)) (fits_signed 16 (get_or c.rects k no_rect).weight) (s.fine k l).0 (s.fine k l).1) in
    rw (
      s.head.bits,
      s.head.drops,
      s.head.word,
      le-leb 1 _ s.some,
      le-leb _ 16 s.most,
      true_of (all (length c.rects) (fine_at c)) each,
    )
    tt

parse_read : (c : Contents) → Shaped c → parse_of (encode c) ≡ loaded c
unfolding encode encode_head
parse_read c s = parse_step (encode c) ∙ rw (head_read c (encode_rects c.rects) s.head) (fields_read 16 c.rects (with_rects c []) s.most s.fine s.some)

pub load_read : (c : Contents) → T (within c) → load_of (encode c) ≡ loaded c
unfolding load_of within
load_read c t =
    let w = and_yes (shaped c) (value_good c) t in
    ap fit_of (parse_read c (shaped_parts c w.0))
    ∙ ap (λ x. cond x (loaded c) (refused 10 0)) (true_of (value_good c) w.1)

-- ---- the file is made of bytes

data AllBytes : List ℕ → Type 0 where
  none : AllBytes []
  more : {x : ℕ} {xs : List ℕ} → x < 256 → AllBytes xs → AllBytes (x ∷ xs)

bytes_of : {bs : List ℕ} → AllBytes bs → Bytes bs
bytes_of none k h = absurd (omega arith)
bytes_of (more h b) zero l = h
bytes_of (more h b) (suc k) l = bytes_of b k (omega arith)

rect_bytes : (r : Rect) (rest : List ℕ) → Fine r → AllBytes rest → AllBytes (encode_rect r ++ rest)
unfolding encode_rect
rect_bytes r rest f after =
    let b = rect_bounds r f.0 in
    let x = b.row in
    let y = b.col in
    let p = x.above in
    let q = y.above in
    let m = x.most in
    let n = y.most in
    let u = unsigned-lt 16 r.weight (omega arith) f.1 in
    more {x = 2} (omega arith) (more {x = 0} (omega arith) (more {x = 6} (omega arith)
    (more (unsigned-lt 8 r.leadrow (omega arith) (edge_fits x.lead_is x.most))
    (more (unsigned-lt 8 r.leadcol (omega arith) (edge_fits y.lead_is y.most))
    (more (unsigned-lt 8 r.trailrow (omega arith) (edge_fits x.trail_is (omega arith)))
    (more (unsigned-lt 8 r.trailcol (omega arith) (edge_fits y.trail_is (omega arith)))
    (more {x = unsigned 16 r.weight / 256} (omega arith) (more {x = unsigned 16 r.weight % 256} (omega arith) after))))))))

rects_bytes : (rs : List Rect) → Fines rs → AllBytes (encode_rects rs)
unfolding encode_rects
rects_bytes [] f = none
rects_bytes (r ∷ rs) f = rect_bytes r (encode_rects rs) (f zero (omega arith)) (rects_bytes rs (λ k p. f (suc k) (omega arith)))

pub encode_bytes : (c : Contents) → T (within c) → Bytes (encode c)
unfolding encode encode_head bits_good drops_good word_good within
encode_bytes c t =
    let p = shaped_parts c (and_yes (shaped c) (value_good c) t).0 in
    let w = p.head in
    let x = and_yes (leb 1 c.b) (leb c.b 12) (subst T (sym w.bits) tt) in
    let y = and_yes (ltb c.q1 c.b) (leb c.q2 8 && leb c.q3 8) (subst T (sym w.drops) tt) in
    let y1 = and_yes (leb c.q2 8) (leb c.q3 8) y.1 in
    let z = and_yes (leb c.t 31) (leb 8 c.w && leb c.w 32) (subst T (sym w.word) tt) in
    let z1 = and_yes (leb 8 c.w) (leb c.w 32) z.1 in
    let b = leb→le c.b 12 x.1 in
    let q1 = ltb→lt c.q1 c.b y.0 in
    let q2 = leb→le c.q2 8 y1.0 in
    let q3 = leb→le c.q3 8 y1.1 in
    let s = leb→le c.t 31 z.0 in
    let v = leb→le c.w 32 z1.1 in
    bytes_of (more {x = 1} (omega arith) (more {x = 0} (omega arith) (more {x = 6} (omega arith)
    (more {x = c.b} (omega arith) (more {x = c.q1} (omega arith) (more {x = c.q2} (omega arith)
    (more {x = c.q3} (omega arith) (more {x = c.t} (omega arith) (more {x = c.w} (omega arith) (rects_bytes c.rects p.fine))))))))))
