-- What the verdicts on a header and on a field tell.
-- Assumes nothing.
use Rattle.std.proofs.Common.{◌≡◌, ℕ, ◌≤◌, Bool, true, false, List, [], length, get_or, refl, sym, ap, subst, T, Err}
use Rattle.std.specs.Prelude.{is_ok}
use Rattle.layout.specs.declared.asking.Question.{Question as Kind}
use Rattle.layout.specs.declared.asking.Refusal.{Refusal}
use Rattle.layout.specs.Questions.{no as no_to, asked}
use borrow.Author.Tests.{leb-true}
use Rattle.layout.specs.Answers.{Said, Question, refused, accepted, verdict}
use Rattle.layout.proofs.Questions.{all_yes, each_way}
use Rattle.limits.specs.Limits.{head_asks, rect_good}
use Rattle.limits.proofs.Asked.{HeadTests}
use Rattle.table.specs.Format.{marked, rect_of, header_asks, field_asks}

-- a verdict accepts, or refuses with a number and a place
pub data Decided (s : Said) : Type 0 where
  yes : s ≡ accepted [] → Decided s
  no : (n p : ℕ) → s ≡ refused n p → Decided s

pub decided : (qs : List Question) → Decided (verdict qs)
decided qs = each_way Decided qs refused (accepted []) (λ n p. no n p refl) (λ y. yes refl)

-- a question that is refused is answered no
pub asked_no : (q : Kind) (b : Bool) (e : Refusal) → asked q b ≡ Err e → (b ≡ false) × (e ≡ no_to q 0)
asked_no q true e h = absurd (subst T (ap is_ok h) tt)
asked_no q false e h = (refl, let x : no_to q 0 ≡ e = cc in sym x)

-- a field that questions 7, 6, 2 and 8 accept
pub record FieldTests (left : ℕ) (bs : List ℕ) : Type 0 where
  pub mark : marked 2 bs ≡ true
  pub room : 1 ≤ left
  pub whole : 9 ≤ length bs
  pub edges : rect_good (rect_of bs) ≡ true

pub field_accepted : (left : ℕ) (bs : List ℕ) → verdict (field_asks left bs) ≡ accepted [] → FieldTests left bs
unfolding field_asks
field_accepted left bs e =
    let y = all_yes (field_asks left bs) e in
    record { mark = y.0; room = leb-true _ _ y.1.0; whole = leb-true _ _ y.1.1.0; edges = y.1.1.1.0 }

-- a header that questions 1 to 5 accept
pub record HeaderTests (bs : List ℕ) : Type 0 where
  pub mark : marked 1 bs ≡ true
  pub whole : 9 ≤ length bs
  pub head : HeadTests (get_or bs 3 0) (get_or bs 4 0) (get_or bs 5 0) (get_or bs 6 0) (get_or bs 7 0) (get_or bs 8 0)

pub header_accepted : (bs : List ℕ) → verdict (header_asks bs) ≡ accepted [] → HeaderTests bs
unfolding header_asks head_asks
header_accepted bs e =
    let y = all_yes (header_asks bs) e in
    record { mark = y.0; whole = leb-true _ _ y.1.0; head = record { bits = y.1.1.0; drops = y.1.1.1.0; word = y.1.1.1.1.0 } }
