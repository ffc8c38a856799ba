-- Words that are digits throughout.
-- Assumes nothing.
use Rattle.std.proofs.Common.{◌≡◌, ℕ, zero, suc, ◌<◌, ◌↔◌, Bool, true, false, cond, eqb, IsTrue, List, [], ◌∷◌, length, get_or, drop, refl, sym, ap, ◌∙◌, arith, lt-ltb, le-ltb, inl, inr, length-drop, zero-add, subst, T, eq-eqb, ne_eqb}
use Rattle.std.proofs.lemmas.Bool.{false≢true, cases_lt}
use Rattle.std.specs.Prelude.{All}
use Rattle.std.specs.Char.{is_ascii_digit}
use Rattle.arith.proofs.Bools.{bool_eq}
use Rattle.std.proofs.Math.Dec.{eqb→eq}
use Rattle.pgm.specs.Grammar.{digit, digits}
use Rattle.words.specs.Words.{spelt, sign}

all_digits : (w : List ℕ) → ((k d : ℕ) → k < length w → IsTrue (is_ascii_digit (get_or w k d))) → digits w ≡ length w
unfolding digits digit
all_digits [] h = refl
all_digits (b ∷ w) h =
    let e : digit b ≡ true = h 0 0 (omega arith) in
    rw e (ap suc (all_digits w (λ k d l. h (suc k) d (omega arith))))

digits_all : (w : List ℕ) → digits w ≡ length w → (k d : ℕ) → k < length w → IsTrue (is_ascii_digit (get_or w k d))
unfolding digits digit
digits_all [] e k d h = absurd (omega arith)
digits_all (b ∷ w) e k d h = go (digit b) refl e (λ f. digits_all w f) k h
  where
    go : (t : Bool) → digit b ≡ t → cond t (suc (digits w)) 0 ≡ suc (length w) → (digits w ≡ length w → (k d : ℕ) → k < length w
        → IsTrue (is_ascii_digit (get_or w k d))) → (k : ℕ) → k < suc (length w) → IsTrue (is_ascii_digit (get_or (b ∷ w) k d))
    go true t e ih zero h = t
    go true t e ih (suc k) h = ih (omega arith) k d (omega arith)
    go false t e ih k h = absurd (omega arith)

pub spelt_as : (w : List ℕ) (r : Bool) → 0 < length w → (IsTrue r ↔ All (λ b. IsTrue (is_ascii_digit b)) w) → r ≡ spelt w 0
unfolding spelt
spelt_as w r h e = rw (lt-ltb 0 (length w) h) (go r refl ∙ ap (λ n. eqb n (length w)) (sym (zero-add (digits w))))
  where
    go : (t : Bool) → r ≡ t → r ≡ eqb (digits w) (length w)
    go true t = t ∙ sym (eq-eqb _ _ (all_digits w (e.0 t)))
    go false t = t ∙ sym (ne_eqb _ _ (λ f. absurd (false≢true (sym t ∙ e.1 (digits_all w f)))))

pub spelt_not : (w : List ℕ) → length w ≡ 0 → false ≡ spelt w 0
unfolding spelt
spelt_not [] e = refl
spelt_not (b ∷ w) e = absurd (omega arith)

true_eqb : (a b : ℕ) → a ≡ b → T (eqb a b)
true_eqb a b e = subst T (sym (eq-eqb a b e)) tt

-- behind the sign
pub spelt_behind : (w : List ℕ) → spelt (drop (sign w) w) 0 ≡ spelt w (sign w)
unfolding spelt
spelt_behind w =
    let d = length-drop (sign w) w in
    elim (cases_lt (sign w) (length w)) [
      | inl h ↦ rw (lt-ltb (sign w) (length w) h, lt-ltb 0 (length (drop (sign w) w)) (omega arith))
          (bool_eq _ _ (λ t. true_eqb _ _ (let e = eqb→eq _ _ t in omega arith)) (λ t. true_eqb _ _ (let e = eqb→eq _ _ t in omega arith)))
      | inr h ↦ rw (le-ltb (sign w) (length w) h, le-ltb 0 (length (drop (sign w) w)) (omega arith)) refl
    ]
