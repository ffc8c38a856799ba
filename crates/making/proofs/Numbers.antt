-- The header's numbers held at 255: questions 3 to 5 are answered alike, and numbers that pass them are not held.
-- Assumes nothing.
use Rattle.std.proofs.Common.{ℕ, ◌≤◌, ◌<◌, min, arith, ◌≡◌, refl, sym, ap, ap₂, ◌∙◌, subst, Bool, true, false, cond, ◌&&◌, List, [], T, leb, ltb, leb→le, le→leb, ltb→lt, lt→ltb, ne_eqb, le-leb}
use Rattle.std.proofs.lemmas.Bool.{lt-leb}
use Rattle.std.proofs.Math.Facts.{and_yes}
use Rattle.arith.proofs.Bools.{bool_eq}
use Rattle.layout.specs.Answers.{Said, refused, accepted, verdict}
use Rattle.layout.proofs.Questions.{on_verdict}
use Rattle.limits.specs.Limits.{bits_good, drops_good, word_good, head_asks}
use Rattle.making.specs.Making.{numbers_ask, contents_of, head_line}
use Rattle.making.specs.Steps.{held_at, blamed_of}

-- ---- the tests

pub most : (k n : ℕ) → k < 255 → leb (min 255 n) k ≡ leb n k
most k n h = bool_eq _ _ (λ t. omega (arith, leb→le, le→leb)) (λ t. omega (arith, leb→le, le→leb))

least : (k n : ℕ) → k < 255 → leb k (min 255 n) ≡ leb k n
least k n h = bool_eq _ _ (λ t. omega (arith, leb→le, le→leb)) (λ t. omega (arith, leb→le, le→leb))

less : (k n : ℕ) → k < 255 → ltb (min 255 n) k ≡ ltb n k
less k n h = bool_eq _ _ (λ t. omega (arith, ltb→lt, lt→ltb)) (λ t. omega (arith, ltb→lt, lt→ltb))

pub bits_held : (b : ℕ) → bits_good (min 255 b) ≡ bits_good b
unfolding bits_good
bits_held b = ap₂ ◌&&◌ (least 1 b (omega arith)) (most 12 b (omega arith))

pub bits_most : (b : ℕ) → bits_good b ≡ true → b ≤ 12
unfolding bits_good
bits_most b e = leb→le b 12 (and_yes (leb 1 b) (leb b 12) (subst T (sym e) tt)).1

pub drops_held : (b q1 q2 q3 : ℕ) → b ≤ 12 → drops_good (min 255 b) (min 255 q1) (min 255 q2) (min 255 q3) ≡ drops_good b q1 q2 q3
unfolding drops_good
drops_held b q1 q2 q3 h =
    let e : min 255 b ≡ b = omega arith in
    ap₂ ◌&&◌ (ap (ltb (min 255 q1)) e ∙ less b q1 (omega arith)) (ap₂ ◌&&◌ (most 8 q2 (omega arith)) (most 8 q3 (omega arith)))

pub word_held : (t w : ℕ) → word_good (min 255 t) (min 255 w) ≡ word_good t w
unfolding word_good
word_held t w = ap₂ ◌&&◌ (most 31 t (omega arith)) (ap₂ ◌&&◌ (least 8 w (omega arith)) (most 32 w (omega arith)))

-- ---- the questions

asks_held : (b q1 q2 q3 t w : ℕ)
    → verdict (head_asks (min 255 b) (min 255 q1) (min 255 q2) (min 255 q3) (min 255 t) (min 255 w)) ≡ verdict (head_asks b q1 q2 q3 t w)
unfolding head_asks
asks_held b q1 q2 q3 t w = rw (bits_held b, word_held t w) (go (bits_good b) refl)
  where
    go : (g : Bool) → bits_good b ≡ g
        → cond g (cond (drops_good (min 255 b) (min 255 q1) (min 255 q2) (min 255 q3)) (cond (word_good t w) (accepted []) (refused 5 0)) (refused 4 0)) (refused 3 0)
        ≡ cond g (cond (drops_good b q1 q2 q3) (cond (word_good t w) (accepted []) (refused 5 0)) (refused 4 0)) (refused 3 0)
    go true e = rw (drops_held b q1 q2 q3 (bits_most b e)) refl
    go false e = refl

-- a no with the place of the line that it is said of
placed : (text : List ℕ) → on_verdict (verdict (head_asks (contents_of text).b (contents_of text).q1 (contents_of text).q2 (contents_of text).q3 (contents_of text).t (contents_of text).w))
    (λ n p. refused n (blamed_of text n)) (accepted [])
    ≡ verdict (numbers_ask text (contents_of text))
unfolding head_asks numbers_ask
placed text =
    go (bits_good (contents_of text).b) (drops_good (contents_of text).b (contents_of text).q1 (contents_of text).q2 (contents_of text).q3)
    (word_good (contents_of text).t (contents_of text).w)
  where
    go : (x y z : Bool)
        → on_verdict (cond x (cond y (cond z (accepted []) (refused 5 0)) (refused 4 0)) (refused 3 0)) (λ n p. refused n (blamed_of text n)) (accepted [])
        ≡ cond x (cond y (cond z (accepted []) (refused 5 (head_line (cond (leb (contents_of text).t 31) 3 2) text).place)) (refused 4 (head_line 1 text).place))
        (refused 3 (head_line 0 text).place)
    go true true true = refl
    go true true false = refl
    go true false z = refl
    go false y z = refl

pub numbers_are : (text : List ℕ) {v : Said}
    → v ≡ verdict (head_asks (held_at 0 0 text) (held_at 1 0 text) (held_at 1 1 text) (held_at 1 2 text) (held_at 2 0 text) (held_at 3 0 text))
    → on_verdict v (λ n p. refused n (blamed_of text n)) (accepted []) ≡ verdict (numbers_ask text (contents_of text))
unfolding held_at
numbers_are text e =
    ap (λ x. on_verdict x (λ n p. refused n (blamed_of text n)) (accepted []))
    (e ∙ asks_held (contents_of text).b (contents_of text).q1 (contents_of text).q2 (contents_of text).q3 (contents_of text).t (contents_of text).w)
    ∙ placed text

-- ---- the line that a no is said of

module _ (text : List ℕ) (n x : ℕ) (three : n ≡ 3 → ⊥) (four : n ≡ 4 → ⊥) (is : x ≡ held_at 2 0 text) where
  pub blame_word : x ≤ 31 → (head_line 3 text).place ≡ blamed_of text n
  unfolding held_at
  blame_word h = rw (ne_eqb n 3 three, ne_eqb n 4 four, le-leb (contents_of text).t 31 (omega arith)) refl

  pub blame_shift : 31 < x → (head_line 2 text).place ≡ blamed_of text n
  unfolding held_at
  blame_shift h = rw (ne_eqb n 3 three, ne_eqb n 4 four, lt-leb (contents_of text).t 31 (omega arith)) refl
