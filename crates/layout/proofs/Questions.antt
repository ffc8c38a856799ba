-- Questions: what an accepted call was answered, and two calls that ask the same.
-- Assumes nothing.
use Rattle.std.proofs.Common.{ℕ, ◌≡◌, refl, sym, ap, subst, ◌∙◌, eqb, Bool, true, false, cond, List, [], ◌∷◌, ◌++◌, T}
use Rattle.layout.specs.Answers.{Said, refused, accepted, Question, first_no, verdict}

-- every question is answered yes
abbrev pub AllYes : List Question → Type 0
AllYes [] = Unit {0}
AllYes (q ∷ qs) = (q.holds ≡ true) × AllYes qs

-- what holds at a verdict, by what it says
abbrev pub on_verdict : {A : Type 0} → Said → (refusal : (number place : ℕ) → A) → (accepted : A) → A
on_verdict s refusal accepted = cond (eqb s.kind 0) (refusal s.number s.place) accepted

-- what a call comes to, by the verdict of its questions
pub first_verdict : {A : Type 0} (qs : List Question) (f : ℕ → ℕ → A) (a : A) → first_no qs f a ≡ on_verdict (verdict qs) f a
first_verdict [] f a = refl
first_verdict (q ∷ qs) f a = go q.holds (first_verdict qs f a)
  where
    go : (b : Bool) → first_no qs f a ≡ on_verdict (verdict qs) f a
        → cond b (first_no qs f a) (f q.number q.place) ≡ on_verdict (cond b (verdict qs) (refused q.number q.place)) f a
    go true e = e
    go false e = refl

-- a call that is not refused was answered yes to each of its questions
pub first_yes : {A : Type 0} (no? : A → Bool) (qs : List Question) (f : ℕ → ℕ → A) (a : A) → ((n p : ℕ) → no? (f n p) ≡ true) → no? (first_no qs f a) ≡ false
    → AllYes qs × (first_no qs f a ≡ a)
first_yes no? [] f a h e = (tt, refl)
first_yes no? (q ∷ qs) f a h e = go (first_yes no? qs f a h) q.holds refl e
  where
    go : (no? (first_no qs f a) ≡ false → AllYes qs × (first_no qs f a ≡ a)) → (b : Bool) → q.holds ≡ b
        → no? (cond b (first_no qs f a) (f q.number q.place)) ≡ false
        → ((q.holds ≡ true) × AllYes qs) × (cond b (first_no qs f a) (f q.number q.place) ≡ a)
    go later true y d = let r = later d in ((y, r.0), r.1)
    go later false y d = absurd (subst T (sym (h q.number q.place) ∙ d) tt)

-- so was one whose verdict is accepted
pub all_yes : (qs : List Question) → verdict qs ≡ accepted [] → AllYes qs
all_yes qs e = (first_yes (λ v. on_verdict v (λ n p. true) false) qs refused (accepted []) (λ n p. refl) (ap (λ v. on_verdict v (λ n p. true) false) e)).0

-- and a call whose questions are all answered yes is accepted
pub all_accepted : {A : Type 0} (qs : List Question) (f : ℕ → ℕ → A) (a : A) → AllYes qs → first_no qs f a ≡ a
all_accepted [] f a y = refl
all_accepted (q ∷ qs) f a y = rw y.0 (all_accepted qs f a y.1)

-- one list of questions after another
pub first_append : {A : Type 0} (ps qs : List Question) (f : ℕ → ℕ → A) (a : A) → first_no (ps ++ qs) f a ≡ first_no ps f (first_no qs f a)
first_append [] qs f a = refl
first_append (q ∷ ps) qs f a = ap (λ x. cond q.holds x (f q.number q.place)) (first_append ps qs f a)

-- a function of what a call comes to
pub first_map : {A B : Type 0} (g : A → B) (qs : List Question) (f : ℕ → ℕ → A) (a : A) → g (first_no qs f a) ≡ first_no qs (λ n p. g (f n p)) (g a)
first_map g [] f a = refl
first_map g (q ∷ qs) f a = go q.holds (first_map g qs f a)
  where
    go : (b : Bool) → g (first_no qs f a) ≡ first_no qs (λ n p. g (f n p)) (g a)
        → g (cond b (first_no qs f a) (f q.number q.place)) ≡ cond b (first_no qs (λ n p. g (f n p)) (g a)) (g (f q.number q.place))
    go true e = e
    go false e = refl

-- two calls that ask the same questions: refused alike, or accepted with every answer known
pub same_questions : {A B : Type 0} (P : A → B → Type 0) (qs : List Question) (f : ℕ → ℕ → A) (a : A) (g : ℕ → ℕ → B) (b : B)
    → ((n p : ℕ) → P (f n p) (g n p)) → (AllYes qs → P a b) → P (first_no qs f a) (first_no qs g b)
same_questions P [] f a g b refusal accepted = accepted tt
same_questions P (q ∷ qs) f a g b refusal accepted = go (same_questions P qs f a g b refusal) q.holds refl
  where
    go : ((AllYes qs → P a b) → P (first_no qs f a) (first_no qs g b)) → (y : Bool) → q.holds ≡ y
        → P (cond y (first_no qs f a) (f q.number q.place)) (cond y (first_no qs g b) (g q.number q.place))
    go later true e = later (λ all. accepted (e, all))
    go later false e = refusal q.number q.place

-- what holds of every refusal, and of the call accepted with every answer known, holds of the call
pub each_way : {A : Type 0} (P : A → Type 0) (qs : List Question) (f : ℕ → ℕ → A) (a : A) → ((n p : ℕ) → P (f n p)) → (AllYes qs → P a) → P (first_no qs f a)
each_way P qs f a refusal accepted = same_questions (λ x y. P x) qs f a f a refusal accepted
