-- Files with more behind sixteen rectangles, in the order of questions that holds and in the one before it.
-- Assumes nothing.
use Rattle.std.proofs.Common.{ℕ, zero, suc, ◌<◌, arith, eq-zero-or-pos, inl, inr, ◌≡◌, refl, sym, ap, ◌∙◌, subst, Bool, true, false, not, cond, ◌&&◌, List, [], ◌∷◌, ◌++◌, T, leb, eqb, length, drop, le-leb, leb-true, eq-eqb, ne_eqb}
use Rattle.std.proofs.Math.Facts.{and_yes}
use Rattle.layout.specs.declared.Rect.{Rect}
use Rattle.layout.specs.Contents.{Contents}
use Rattle.layout.specs.Answers.{refused as refusal, Question, asks, first_no, verdict}
use Rattle.layout.proofs.Questions.{on_verdict, first_verdict, all_yes}
use Rattle.limits.specs.Limits.{head_asks, rect_good, value_good, shaped}
use Rattle.table.specs.Format.{Bytes, Outcome, refused, loaded, marked, head_of, rect_of, plus, header_asks, field_asks, at_end, fields_of, parse_of, fit_of, load_of, encode_rect, encode_rects, encode_head, encode}
use Rattle.table.specs.Before.{fields_before, load_before, Overlong}
use Rattle.table.proofs.Asked.{Decided, yes, no, decided, FieldTests, field_accepted, header_accepted}
use Rattle.table.proofs.Structs.{with_rects}
use Rattle.table.proofs.Fields.{fields_end}
use Rattle.table.proofs.Sound.{field_again, header_again, weight_fits, bytes_drop}
use Rattle.table.proofs.Complete.{Fine, Fines, read_back, field_read, field_gone, through, fields_through, head_read, shaped_parts, shaped_of}

-- ---- questions that are not 6

abbrev without_six : List Question → Bool
without_six [] = true
without_six (q ∷ qs) = not (eqb q.number 6) && without_six qs

-- where none of the questions is 6, only what follows them can be refused with 6
later_six : (qs : List Question) (next : Outcome) → T (without_six qs) → first_no qs refused next ≡ refused 6 0 → next ≡ refused 6 0
later_six [] next t e = e
later_six (q ∷ qs) next t e = go (later_six qs next a.1) q.holds e
  where
    a : T (not (eqb q.number 6)) × T (without_six qs)
    a = and_yes (not (eqb q.number 6)) (without_six qs) t

    go : (first_no qs refused next ≡ refused 6 0 → next ≡ refused 6 0) → (b : Bool)
        → cond b (first_no qs refused next) (refused q.number q.place) ≡ refused 6 0 → next ≡ refused 6 0
    go later true h = later h
    go later false h = absurd (subst T (ap not (eq-eqb q.number 6 (let n : q.number ≡ 6 = cc in n))) a.0)

-- questions that refuse do so whatever follows them
refused_by : (qs : List Question) {n p : ℕ} → verdict qs ≡ refusal n p → (next : Outcome) → first_no qs refused next ≡ refused n p
refused_by qs v next = first_verdict qs refused next ∙ ap (λ x. on_verdict x refused next) v

-- and not with 6 where none of them is 6
not_by_six : (qs : List Question) {n p : ℕ} → T (without_six qs) → verdict qs ≡ refusal n p → ¬ (refused n p ≡ refused 6 0)
not_by_six qs t v e = let s = later_six qs (refused 7 0) t (refused_by qs v _ ∙ e) in absurd (let z : ◌≡◌ {A = ℕ} 7 6 = cc in omega arith)

-- ---- the fields in both orders

-- questions 7, 2 and 8
abbrev asked : List ℕ → List Question
asked bs = asks 7 (marked 2 bs) ∷ asks 2 (leb 9 (length bs)) ∷ asks 8 (rect_good (rect_of bs)) ∷ []

of_step : (left : ℕ) (bs : List ℕ) (c : Contents) → 0 < length bs
    → fields_of (suc left) bs c ≡ first_no (asked bs) refused (fields_of left (drop 9 bs) (plus c (rect_of bs)))
unfolding fields_of field_asks
of_step left bs c h = rw (ne_eqb (length bs) 0 (λ e. omega arith), le-leb 1 (suc left) (omega arith))

before_step : (left : ℕ) (bs : List ℕ) (c : Contents) → 0 < length bs
    → fields_before (suc left) bs c ≡ first_no (asked bs) refused (fields_before left (drop 9 bs) (plus c (rect_of bs)))
unfolding fields_before
before_step left bs c h = rw (ne_eqb (length bs) 0 (λ e. omega arith))

before_end : (left : ℕ) (bs : List ℕ) (c : Contents) → length bs ≡ 0 → fields_before left bs c ≡ at_end c
unfolding fields_before
before_end zero bs c e = rw (eq-eqb (length bs) 0 e)
before_end (suc left) bs c e = rw (eq-eqb (length bs) 0 e)

before_on : (left : ℕ) (r : Rect) (rest : List ℕ) (c : Contents) → Fine r
    → fields_before (suc left) (encode_rect r ++ rest) c ≡ fields_before left rest (plus c r)
before_on left r rest c f =
    let t = field_accepted (suc left) (encode_rect r ++ rest) (field_read left r rest f) in
    let l = t.whole in
    before_step left (encode_rect r ++ rest) c (omega arith)
    ∙ rw (t.mark, le-leb 9 (length (encode_rect r ++ rest)) l, t.edges, read_back r rest f, field_gone r rest)

-- where no rectangle more may be read
of_full : (rest : List ℕ) (c : Contents) → 0 < length rest → fields_of 0 rest c ≡ refused (cond (marked 2 rest) 6 7) 0
unfolding fields_of field_asks
of_full rest c h = rw (ne_eqb (length rest) 0 (λ e. omega arith)) (go (marked 2 rest))
  where
    go : (b : Bool) → cond b (refused 6 0) (refused 7 0) ≡ refused (cond b 6 7) 0
    go true = refl
    go false = refl

before_full : (rest : List ℕ) (c : Contents) → 0 < length rest → fields_before 0 rest c ≡ refused 6 0
unfolding fields_before
before_full rest c h = rw (ne_eqb (length rest) 0 (λ e. omega arith))

-- the fields are read alike and not refused with 6, or they are the fields of `left` rectangles with more behind them
data Reach (left : ℕ) (bs : List ℕ) (c : Contents) : Type 0 where
  alike : fields_of left bs c ≡ fields_before left bs c → ¬ (fields_of left bs c ≡ refused 6 0) → Reach left bs c
  behind : (rs : List Rect) (rest : List ℕ) → length rs ≡ left → Fines rs → 0 < length rest → bs ≡ encode_rects rs ++ rest → Reach left bs c

not_six : (c : Contents) → ¬ (at_end c ≡ refused 6 0)
not_six c e = let h = later_six (asks 9 (leb 1 (length c.rects)) ∷ []) (loaded c) tt e in absurd (let z : ◌≡◌ {A = ℕ} 0 1 = cc in omega arith)

reach_end : (left : ℕ) (bs : List ℕ) (c : Contents) → length bs ≡ 0 → Reach left bs c
reach_end left bs c z =
    alike (fields_end left bs c z ∙ sym (before_end left bs c z)) (λ e. not_six c (sym (fields_end left bs c z) ∙ e))

-- a field that is refused is refused alike
reach_refused : (left : ℕ) (bs : List ℕ) (c : Contents) (n p : ℕ) → 0 < length bs → verdict (asked bs) ≡ refusal n p → Reach (suc left) bs c
reach_refused left bs c n p h v =
    let o = of_step left bs c h ∙ refused_by (asked bs) v _ in
    alike (o ∙ sym (before_step left bs c h ∙ refused_by (asked bs) v _)) (λ e. not_by_six (asked bs) tt v (sym o ∙ e))

-- a field that is accepted is its rectangle's, and the fields behind it decide
reach_accepted : (left : ℕ) (bs : List ℕ) (c : Contents) → Bytes bs → 0 < length bs → FieldTests (suc left) bs
    → Reach left (drop 9 bs) (plus c (rect_of bs)) → Reach (suc left) bs c
unfolding encode_rects encode_rect
reach_accepted left bs c byte h f (alike e n) =
    alike (of_step left bs c h ∙ ap (first_no (asked bs) refused) e ∙ sym (before_step left bs c h))
    (λ s. n (later_six (asked bs) _ tt (sym (of_step left bs c h) ∙ s)))
reach_accepted left bs c byte h f (behind rs rest l fine some e) =
    behind (rect_of bs ∷ rs) rest (ap suc l) fines some
    (sym (field_again (suc left) bs byte f) ∙ ap (λ x. encode_rect (rect_of bs) ++ x) e)
  where
    fines : Fines (rect_of bs ∷ rs)
    fines zero k = (subst T (sym f.edges) tt, weight_fits bs byte f.whole)
    fines (suc k) l = fine k (omega arith)

reach_field : (left : ℕ) (bs : List ℕ) (c : Contents) → Bytes bs → 0 < length bs → Reach left (drop 9 bs) (plus c (rect_of bs))
    → Decided (verdict (asked bs)) → Reach (suc left) bs c
reach_field left bs c byte h r (yes v) =
    let y = all_yes (asked bs) v in
    let f : FieldTests (suc left) bs = record { mark = y.0; room = omega arith; whole = leb-true _ _ y.1.0; edges = y.1.1.0 } in
    reach_accepted left bs c byte h f r
reach_field left bs c byte h r (no n p v) = reach_refused left bs c n p h v

reach : (left : ℕ) (bs : List ℕ) (c : Contents) → Bytes bs → Reach left bs c
unfolding encode_rects
reach zero bs c byte =
    elim (eq-zero-or-pos (length bs)) [
      | inl z ↦ reach_end zero bs c z
      | inr h ↦ behind [] bs refl (λ k l. absurd (omega arith)) h refl
    ]
reach (suc left) bs c byte =
    elim (eq-zero-or-pos (length bs)) [
      | inl z ↦ reach_end (suc left) bs c z
      | inr h ↦ reach_field left bs c byte h (reach left (drop 9 bs) (plus c (rect_of bs)) (bytes_drop 9 bs byte)) (decided (asked bs))
    ]

-- ---- the whole file

module _ (c : Contents) (rest : List ℕ) (good : T (shaped c)) (sixteen : length c.rects ≡ 16) (more : 0 < length rest) where
  header_passed : (o : Outcome) → first_no (header_asks (encode c ++ rest)) refused o ≡ o
  unfolding encode encode_head
  header_passed o =
      first_verdict (header_asks (encode c ++ rest)) refused o
      ∙ ap (λ v. on_verdict v refused o) (head_read c (encode_rects c.rects ++ rest) (shaped_parts c good).head)

  pub load_behind : load_of (encode c ++ rest) ≡ refused (cond (marked 2 rest) 6 7) 0
  unfolding load_of parse_of encode encode_head
  load_behind =
      ap fit_of (header_passed _
      ∙ fields_through 16 0 c.rects rest (with_rects c []) (omega arith) (shaped_parts c good).fine
      ∙ of_full rest (with_rects c c.rects) more)

  pub before_behind : load_before (encode c ++ rest) ≡ refused 6 0
  unfolding load_before encode encode_head
  before_behind =
      ap fit_of (header_passed _
      ∙ through fields_before before_on 16 0 c.rects rest (with_rects c []) (omega arith) (shaped_parts c good).fine
      ∙ before_full rest (with_rects c c.rects) more)

-- a file is answered alike in both orders and not with 6, or it is overlong
pub data Compared (bs : List ℕ) : Type 0 where
  alike : load_of bs ≡ load_before bs → ¬ (load_of bs ≡ refused 6 0) → Compared bs
  overlong : Overlong bs → Compared bs

-- only what is read can be refused with 6
fit_six : (o : Outcome) → fit_of o ≡ refused 6 0 → o ≡ refused 6 0
fit_six (refused n p) e = e
fit_six (loaded c) e = later_six (asks 10 (value_good c) ∷ []) (loaded c) tt e

header_not_six : (bs : List ℕ) → T (without_six (header_asks bs))
unfolding header_asks head_asks
header_not_six bs = tt

compared_fields : (bs : List ℕ) → fields_of 16 (drop 9 bs) (head_of bs) ≡ fields_before 16 (drop 9 bs) (head_of bs)
    → ¬ (fields_of 16 (drop 9 bs) (head_of bs) ≡ refused 6 0) → Compared bs
unfolding load_of parse_of load_before
compared_fields bs e n = alike (ap (λ o. fit_of (first_no (header_asks bs) refused o)) e) (λ s. n (later_six (header_asks bs) _ (header_not_six bs) (fit_six _ s)))

compared_header : (bs : List ℕ) (rs : List Rect) (rest : List ℕ) → length rs ≡ 16 → Fines rs → 0 < length rest → drop 9 bs ≡ encode_rects rs ++ rest
    → Decided (verdict (header_asks bs)) → Compared bs
unfolding load_of parse_of load_before encode encode_head
compared_header bs rs rest l fine more e (yes v) =
    let h = header_accepted bs v in
    overlong record {
      table = with_rects (head_of bs) rs;
      rest = rest;
      good = shaped_of (with_rects (head_of bs) rs) (record { head = h.head; some = omega arith; most = omega arith; fine = fine });
      sixteen = l;
      more = more;
      is = sym (header_again bs h) ∙ ap (λ x. encode_head (head_of bs) ++ x) e;
    }
compared_header bs rs rest l fine more e (no n p v) =
    let is = refused_by (header_asks bs) v in
    alike (ap fit_of (is _ ∙ sym (is _))) (λ s. not_by_six (header_asks bs) (header_not_six bs) v (sym (ap fit_of (is _)) ∙ s))

pub compared : (bs : List ℕ) → Bytes bs → Compared bs
compared bs byte = go (reach 16 (drop 9 bs) (head_of bs) (bytes_drop 9 bs byte))
  where
    go : Reach 16 (drop 9 bs) (head_of bs) → Compared bs
    go (alike e n) = compared_fields bs e n
    go (behind rs rest l fine more e) = compared_header bs rs rest l fine more e (decided (header_asks bs))
