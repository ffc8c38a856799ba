-- What is shown of a file, from what reading it answers and from the texts that were put; and what is printed of a struct.
-- Assumes nothing.
use Rattle.std.proofs.Common.{◌≡◌, ◌≤◌, ℕ, List, [], ◌∷◌, ◌++◌, length, drop, pos, Result, Ok, Err, true, false, cond, refl, sym, ap, ap₂, ◌∙◌, subst, append-nil, le-leb, arith}
use Rattle.std.proofs.lemmas.List.{length-take}
use Rattle.arith.proofs.Tabs.{length-tab}
use Rattle.layout.specs.declared.Table.{Table}
use Rattle.layout.specs.declared.asking.Refusal.{Refusal}
use Rattle.layout.specs.Contents.{Contents, contents, table_of, rects_of}
use Rattle.layout.specs.Answers.{accepted, no_said, wrote}
use Rattle.limits.specs.Limits.{fitting, value_good}
use Rattle.table.specs.Format.{loaded, parse_of, given, handed_out, table_from}
use Rattle.table.proofs.Sound.{refused_from, loaded_from, parse_sound}
use Rattle.table.proofs.Structs.{contents-table_of}
use Rattle.text.specs.Text.{Put}
use Rattle.text.proofs.Puts.{put_start, put_then}
use Rattle.showing.specs.Showing.{text_of, remark, shown_text, shown_of, told, printed, shown_at}
use Rattle.showing.proofs.Written.{contents_told}

-- questions 1 to 9 were answered yes: the struct says the table c that was read, and what is left of question 10 is its own test
pub record Read (bs : List ℕ) (t : Table) : Type 0 where
  pub c : Contents
  pub is : parse_of bs ≡ loaded c
  pub says : contents t ≡ c
  pub few : t.count ≤ 16
  pub slots : length t.rects ≡ 16
  pub fits : fitting t ≡ value_good c

pub read : (bs : List ℕ) {v : Result Table Refusal} {t : Table} → given v ≡ handed_out (parse_of bs) → v ≡ Ok t → Read bs t
unfolding fitting
read bs {v} {t} e a =
    let g = sym (ap given a) ∙ e in
    let l = loaded_from (parse_of bs) (sym (ap (λ h. h.said) g)) in
    let p = parse_sound bs l.0 l.1 in
    let s : t ≡ table_of l.0 = ap (λ h. h.table) g ∙ ap table_from l.1 in
    let k = contents-table_of l.0 p.most in
    record {
      c = l.0;
      is = l.1;
      says = ap contents s ∙ k;
      few = subst (λ u. u.count ≤ 16) (sym s) p.most;
      slots = ap (λ u. length u.rects) s ∙ length-tab 16 _;
      fits = ap fitting s ∙ rw (p.head.bits, p.head.drops, p.head.word, le-leb (length l.0.rects) 16 p.most) (ap value_good k);
    }

-- a refused file
pub shows_refusal : (bs out : List ℕ) {v : Result Table Refusal} {r : Refusal} → given v ≡ handed_out (parse_of bs) → v ≡ Err r
    → wrote (no_said r) out ≡ shown_of (parse_of bs) out
unfolding shown_of
shows_refusal bs out {v} {r} e a = sym (ap (λ o. shown_of o out) (refused_from (parse_of bs) _ _ (sym (ap (λ h. h.said) (sym (ap given a) ∙ e)))))

-- what is shown of the table c was put
shows_loaded : (bs out : List ℕ) {out1 : List ℕ} {n : ℕ} (c : Contents) → parse_of bs ≡ loaded c → Put out 0 (shown_text c) out1 n
    → wrote (accepted (pos n ∷ [])) out1 ≡ shown_of (parse_of bs) out
unfolding shown_of
shows_loaded bs out c e p =
    let s = put_start p in
    ap₂ (λ n o. wrote (accepted (pos n ∷ [])) o) s.0 s.1 ∙ sym (ap (λ o. shown_of o out) e)

-- the text was put, and question 10 says yes
pub shows_text : (bs out : List ℕ) {out1 : List ℕ} {n : ℕ} {t : Table} → Read bs t → fitting t ≡ true → Put out 0 (text_of (contents t)) out1 n
    → wrote (accepted (pos n ∷ [])) out1 ≡ shown_of (parse_of bs) out
unfolding shown_text
shows_text bs out {out1} {n} {t} r y p =
    shows_loaded bs out r.c r.is
    (subst (λ s. Put out 0 s out1 n)
    (ap text_of r.says ∙ sym (append-nil (text_of r.c)) ∙ ap (λ b. text_of r.c ++ cond b [] remark) (sym y ∙ r.fits)) p)

-- the text and the comment were put, and question 10 says no
pub shows_remark : (bs out : List ℕ) {out1 out2 : List ℕ} {n m : ℕ} {t : Table} → Read bs t → fitting t ≡ false
    → Put out 0 (text_of (contents t)) out1 n → Put out1 n remark out2 m → wrote (accepted (pos m ∷ [])) out2 ≡ shown_of (parse_of bs) out
unfolding shown_text
shows_remark bs out {out1} {out2} {n} {m} {t} r y p q =
    shows_loaded bs out r.c r.is
    (subst (λ s. Put out 0 s out2 m)
    (ap (λ d. text_of d ++ remark) r.says ∙ ap (λ b. text_of r.c ++ cond b [] remark) (sym y ∙ r.fits)) (put_then p q))

-- ---- what is printed of a struct

-- of a file that is read, the struct says what is shown of it
pub shows : (bs : List ℕ) {v : Result Table Refusal} {t : Table} → given v ≡ handed_out (parse_of bs) → v ≡ Ok t
    → (out : List ℕ) → shown_at (Ok (record { 0 = t })) out ≡ shown_of (parse_of bs) out
unfolding shown_of printed shown_text
shows bs {v} {t} e a out =
    let r = read bs e a in
    let n = length-take t.count t.rects in
    let few = r.few in
    let long = r.slots in
    let same : told t ≡ r.c = sym (contents_told t (rects_of t) t.count refl (omega arith)) ∙ r.says in
    ap₂ (λ c b. let text = text_of c ++ cond b [] remark in wrote (accepted (pos (length text) ∷ [])) (text ++ drop (length text) out)) same r.fits
    ∙ sym (ap (λ o. shown_of o out) r.is)
