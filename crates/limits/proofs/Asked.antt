-- What verdicts tell of the questions that led to them.
-- Assumes nothing.
use Rattle.std.proofs.Common.{ℕ, ◌≤◌, arith, ◌≡◌, refl, sym, ap, subst, Bool, true, false, ◌&&◌, [], ◌∷◌, T, leb, ltb, leb→le, ltb→lt}
use Rattle.std.specs.Prelude.{Result, Ok, Err, is_ok}
use Rattle.std.proofs.Math.Facts.{and_yes}
use Rattle.std.proofs.Math.Bool.{and_assoc}
use Rattle.arith.proofs.Bools.{true_of}
use Rattle.layout.specs.Contents.{contents}
use Rattle.layout.specs.declared.Table.{Table}
use Rattle.limits.specs.Limits.{bits_good, drops_good, word_good, head_asks, value_good, fitting}
use Rattle.layout.specs.Answers.{said, asks, verdict}
use Rattle.layout.specs.Questions.{asked}
use Rattle.layout.specs.declared.asking.Question.{Question as Kind}
use Rattle.layout.specs.declared.asking.Refusal.{Refusal}
use Rattle.limits.specs.Slots.{HeadGood}

-- a header that questions 3 to 5 accept
pub record HeadTests (b q1 q2 q3 t w : ℕ) : Type 0 where
  pub bits : bits_good b ≡ true
  pub drops : drops_good b q1 q2 q3 ≡ true
  pub word : word_good t w ≡ true

pub head_tests : (b q1 q2 q3 t w : ℕ) → (bits_good b && (drops_good b q1 q2 q3 && word_good t w)) ≡ true → HeadTests b q1 q2 q3 t w
head_tests b q1 q2 q3 t w e =
    let x = and_yes (bits_good b) (drops_good b q1 q2 q3 && word_good t w) (subst T (sym e) tt) in
    let y = and_yes (drops_good b q1 q2 q3) (word_good t w) x.1 in
    record { bits = true_of _ x.0; drops = true_of _ y.0; word = true_of _ y.1 }

-- a header's verdict accepts it where questions 3 to 5 do
pub head_is : (b q1 q2 q3 t w : ℕ) (v : Result (Unit {0}) Refusal) → said v ≡ verdict (head_asks b q1 q2 q3 t w)
    → is_ok v ≡ (bits_good b && (drops_good b q1 q2 q3 && word_good t w))
unfolding head_asks
head_is b q1 q2 q3 t w v e = go v (bits_good b) (drops_good b q1 q2 q3) (word_good t w) (ap (λ s. s.kind) e)
  where
    go : (v : Result (Unit {0}) Refusal) (x y z : Bool) → (said v).kind ≡ (verdict (asks 3 x ∷ asks 4 y ∷ asks 5 z ∷ [])).kind
        → is_ok v ≡ (x && (y && z))
    go (Ok u) true true true e = refl
    go (Ok u) true true false e = absurd (omega (arith, e))
    go (Ok u) true false z e = absurd (omega (arith, e))
    go (Ok u) false y z e = absurd (omega (arith, e))
    go (Err r) true true true e = absurd (omega (arith, e))
    go (Err r) true true false e = refl
    go (Err r) true false z e = refl
    go (Err r) false y z e = refl

-- a question that is not refused is answered yes
pub asked_yes : (q : Kind) (b : Bool) (u : Unit {0}) → asked q b ≡ Ok u → b ≡ true
asked_yes q true u e = refl
asked_yes q false u e = absurd (subst T (sym (ap is_ok e)) tt)

-- question 10 is asked behind the header's and the count
pub fitting_is : (t : Table)
    → fitting t ≡ ((bits_good t.b && (drops_good t.b t.q1 t.q2 t.q3 && word_good t.t t.w)) && (leb t.count 16 && value_good (contents t)))
unfolding fitting
fitting_is t = grind (arith, and_assoc)

-- the number of rectangles of a table that question 10 was asked of with yes
pub fitting_few : (t : Table) → fitting t ≡ true → t.count ≤ 16
unfolding fitting
fitting_few t e =
    let a = and_yes (bits_good t.b) _ (subst T (sym e) tt) in
    let b = and_yes (drops_good t.b t.q1 t.q2 t.q3) _ a.1 in
    let c = and_yes (word_good t.t t.w) _ b.1 in
    leb→le _ _ (and_yes (leb t.count 16) _ c.1).0

-- the bounds behind the tests
pub word_bounds : (t w : ℕ) → word_good t w ≡ true → (t ≤ 31) × (8 ≤ w) × (w ≤ 32)
unfolding word_good
word_bounds t w e =
    let a = and_yes (leb t 31) (leb 8 w && leb w 32) (subst T (sym e) tt) in
    let b = and_yes (leb 8 w) (leb w 32) a.1 in
    (leb→le _ _ a.0, leb→le _ _ b.0, leb→le _ _ b.1)

pub head_bounds : (t : Table) → HeadTests t.b t.q1 t.q2 t.q3 t.t t.w → HeadGood t
unfolding bits_good
head_bounds t h =
    let b = and_yes (leb 1 t.b) (leb t.b 12) (subst T (sym h.bits) tt) in
    record { bits = leb→le _ _ b.1; word = h.word }

-- the bounds on the drops
pub drops_bounds : (b q1 q2 q3 : ℕ) → bits_good b ≡ true → drops_good b q1 q2 q3 ≡ true → (q1 ≤ 11) × (q2 ≤ 8) × (q3 ≤ 8)
unfolding bits_good drops_good
drops_bounds b q1 q2 q3 e d =
    let x = leb→le b 12 (and_yes (leb 1 b) (leb b 12) (subst T (sym e) tt)).1 in
    let y = and_yes (ltb q1 b) (leb q2 8 && leb q3 8) (subst T (sym d) tt) in
    let z = and_yes (leb q2 8) (leb q3 8) y.1 in
    let l = ltb→lt q1 b y.0 in
    (omega arith, leb→le _ _ z.0, leb→le _ _ z.1)
