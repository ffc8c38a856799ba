-- The table of a text is within the limits, so that it is written.
-- Assumes nothing.
use Rattle.std.proofs.Common.{ℕ, ◌≤◌, arith, ◌≡◌, refl, sym, ap, ◌∙◌, subst, Bool, true, false, cond, List, [], ◌∷◌, ◌++◌, T, leb, length, drop, length-append, pos}
use Rattle.std.proofs.Math.Facts.{yes_and}
use Rattle.std.specs.Prelude.{Ok, Err}
use Rattle.arith.proofs.Bools.{true_of}
use Rattle.layout.specs.Contents.{Contents, table_of}
use Rattle.layout.specs.Answers.{refused as refusal, accepted, wrote, asks}
use Rattle.layout.proofs.Answers.{same_natural}
use Rattle.layout.proofs.Questions.{AllYes, first_yes}
use Rattle.limits.specs.Limits.{value_good, shaped, within, acceptable}
use Rattle.layout.specs.declared.Table.{Table}
use Rattle.making.specs.declared.error.MakeError.{MakeError}
use Rattle.making.specs.declared.error.MakeError.TheVariants.{Rule, Text}
use Rattle.making.specs.Errors.{error_said, made_given}
use Rattle.table.specs.Format.{Outcome, refused, loaded, encode, table_from, handed_out}
use Rattle.table.specs.Writing.{write_of}
use Rattle.table.proofs.Sound.{same_contents, refused_from, loaded_from}
use Rattle.table.proofs.Complete.{Shaped, shaped_of}
use Rattle.table.proofs.Structs.{contents-table_of}
use Rattle.table.proofs.Encoded.{length-encode}
use Rattle.making.specs.Making.{contents_of, head_asks, tail_asks, make_asks, make_of, left_by, make_left}
use Rattle.making.proofs.Granted.{yes_append, shaped_text}

abbrev is_refused : Outcome → Bool
is_refused (refused n p) = true
is_refused (loaded c) = false

-- what is asked of the text was answered yes, and the table is the one that it says
pub record Made (text : List ℕ) (c : Contents) : Type 0 where
  pub head : AllYes (head_asks text)
  pub tail : AllYes (tail_asks text)
  pub value : value_good c ≡ true
  pub is : contents_of text ≡ c

pub made_parts : (text : List ℕ) (c : Contents) → make_of text ≡ loaded c → Made text c
unfolding make_of make_asks
made_parts text c e =
    let y = first_yes is_refused (make_asks text) refused (loaded (contents_of text)) (λ n p. refl) (ap is_refused e) in
    let s = same_contents (sym y.1 ∙ e) in
    let a = yes_append (head_asks text) (tail_asks text ++ (asks 10 (value_good (contents_of text)) ∷ [])) y.0.1 in
    let b = yes_append (tail_asks text) (asks 10 (value_good (contents_of text)) ∷ []) a.1 in
    record { head = a.0; tail = b.0; value = sym (ap value_good s) ∙ b.1.0; is = s }

pub made_shaped : (text : List ℕ) (c : Contents) → make_of text ≡ loaded c → Shaped c
made_shaped text c e = let m = made_parts text c e in subst Shaped m.is (shaped_text text m.head m.tail)

pub made_within : (text : List ℕ) (c : Contents) → make_of text ≡ loaded c → T (within c)
unfolding within
made_within text c e =
    yes_and (shaped c) (value_good c) (shaped_of c (made_shaped text c e)) (subst T (sym (made_parts text c e).value) tt)

-- its struct is written as its file
pub made_left : (text : List ℕ) (c : Contents) (out : List ℕ) → make_of text ≡ loaded c → write_of (table_of c) out ≡ left_by (loaded c) out
unfolding write_of acceptable
made_left text c out e =
    let same = contents-table_of c (made_shaped text c e).most in
    rw (ap within same ∙ true_of (within c) (made_within text c e), same, sym (length-encode c)) refl

-- the bytes that were written are in the output
left_within : (o : Outcome) (out : List ℕ) {after : List ℕ} {n : ℕ} → wrote (accepted (pos n ∷ [])) after ≡ left_by o out → n ≤ length after
left_within (refused number place) out e = absurd (let z = ap (λ x. x.said.kind) e in omega arith)
left_within (loaded c) out {after} {n} e = go (leb (length (encode c)) (length out)) e
  where
    go : (b : Bool)
        → wrote (accepted (pos n ∷ [])) after
        ≡ cond b (wrote (accepted (pos (length (encode c)) ∷ [])) (encode c ++ drop (length (encode c)) out)) (wrote (refusal 13 0) out)
        → n ≤ length after
    go true f =
        let m : n ≡ length (encode c) = same_natural (ap (λ x. x.said) f) in
        let l = ap (λ x. length x.out) f ∙ length-append (encode c) (drop (length (encode c)) out) in
        omega arith
    go false f = absurd (let z = ap (λ x. x.said.kind) f in omega arith)

pub made_within_out : (text out : List ℕ) {after : List ℕ} {n : ℕ} → wrote (accepted (pos n ∷ [])) after ≡ make_left text out → n ≤ length after
unfolding make_left
made_within_out text out e = left_within (make_of text) out e

-- ---- what the call leaves

pub error_left : (text out : List ℕ) (e : MakeError) → made_given (Err e) ≡ handed_out (make_of text) → wrote (error_said e) out ≡ make_left text out
unfolding make_left
error_left text out (Rule r) h = sym (ap (λ o. left_by o out) (refused_from (make_of text) _ _ (sym (ap (λ x. x.said) h))))
error_left text out (Text r) h = sym (ap (λ o. left_by o out) (refused_from (make_of text) _ _ (sym (ap (λ x. x.said) h))))

pub written_left : (text out : List ℕ) (t : Table) → made_given (Ok t) ≡ handed_out (make_of text) → write_of t out ≡ make_left text out
unfolding make_left
written_left text out t e =
    let l = loaded_from (make_of text) (sym (ap (λ h. h.said) e)) in
    ap (λ x. write_of x out) (ap (λ h. h.table) e ∙ ap table_from l.1) ∙ made_left text l.0 out l.1 ∙ sym (ap (λ o. left_by o out) l.1)
