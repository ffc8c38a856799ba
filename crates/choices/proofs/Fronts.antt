-- Ratings in their order: what is beaten is beaten by one that nothing beats.
-- Assumes nothing.
use Rattle.std.proofs.Common.{ℕ, zero, suc, ◌+◌, ◌≤◌, ◌<◌, lt-suc_self, not-suc-le-zero, arith, ◌≡◌, refl, sym, ap₂, subst, Bool, true, false, not, ◌&&◌, ◌||◌, ◌⊎◌, inl, inr, T, leb, ltb, leb→le, ltb→lt, le→leb, nltb→le, lt-ltb}
use Rattle.std.proofs.Math.Nat.{le_step}
use Rattle.std.proofs.Math.Facts.{and_yes, yes_and}
use Rattle.std.proofs.lemmas.Bool.{not-false}
use Rattle.arith.specs.All.{all}
use Rattle.arith.proofs.Alls.{all_at}
use Rattle.arith.proofs.Bools.{true_of}
use Rattle.choices.specs.Choices.{Rating, beats, unbeaten}

-- the three figures together
abbrev pub size : Rating → ℕ
size x = x.sums + x.below + x.above

-- y is at most x in each
pub record Within (y x : Rating) : Type 0 where
  pub sums : y.sums ≤ x.sums
  pub below : y.below ≤ x.below
  pub above : y.above ≤ x.above

-- ---- one beats another

either : (a b c : Bool) {P : Type 0} → (T a → P) → (T b → P) → (T c → P) → T (a || (b || c)) → P
either true b c f g h t = f tt
either false true c f g h t = g tt
either false false true f g h t = h tt
either false false false f g h t = absurd t

pub beats_within : (y x : Rating) → beats y x ≡ true → (y.accepted ≡ true) × Within y x × (size y < size x)
unfolding beats
beats_within y x e =
    let p = and_yes y.accepted _ (subst T (sym e) tt) in
    let q = and_yes (leb y.sums x.sums && (leb y.below x.below && leb y.above x.above)) _ p.1 in
    let r = and_yes (leb y.sums x.sums) (leb y.below x.below && leb y.above x.above) q.0 in
    let s = and_yes (leb y.below x.below) (leb y.above x.above) r.1 in
    let a = leb→le y.sums x.sums r.0 in
    let b = leb→le y.below x.below s.0 in
    let c = leb→le y.above x.above s.1 in (
      true_of _ p.0,
      record { sums = a; below = b; above = c },
      either (ltb y.sums x.sums) (ltb y.below x.below) (ltb y.above x.above)
          (λ t. let l = ltb→lt y.sums x.sums t in omega arith)
          (λ t. let l = ltb→lt y.below x.below t in omega arith)
          (λ t. let l = ltb→lt y.above x.above t in omega arith)
          q.1,
    )

pub within_beats : (y x : Rating) → y.accepted ≡ true → Within y x → size y < size x → beats y x ≡ true
unfolding beats
within_beats y x e w l =
    let a = w.sums in
    let b = w.below in
    let c = w.above in
    true_of _
    (yes_and y.accepted _ (subst T (sym e) tt)
    (yes_and (leb y.sums x.sums && (leb y.below x.below && leb y.above x.above)) _
    (yes_and (leb y.sums x.sums) _ (le→leb _ _ a) (yes_and (leb y.below x.below) _ (le→leb _ _ b) (le→leb _ _ c)))
    (go (ltb y.sums x.sums) (ltb y.below x.below) (nltb→le y.sums x.sums) (nltb→le y.below x.below))))
  where
    go : (s b : Bool) → (T (not s) → x.sums ≤ y.sums) → (T (not b) → x.below ≤ y.below) → T (s || (b || ltb y.above x.above))
    go true b f g = tt
    go false true f g = tt
    go false false f g =
        let m = f tt in
        let n = g tt in
        let p = w.sums in
        let q = w.below in
        subst T (sym (lt-ltb y.above x.above (omega arith))) tt

-- ---- the front

pub not_all : (n : ℕ) (g : ℕ → Bool) → all n g ≡ false → (k : ℕ) × ((k < n) × (g k ≡ false))
unfolding all
not_all zero g e = absurd (subst T e tt)
not_all (suc n) g e = go (all n g) (g n) refl refl e (not_all n g)
  where
    go : (a b : Bool) → all n g ≡ a → g n ≡ b → (a && b) ≡ false → (all n g ≡ false → (k : ℕ) × ((k < n) × (g k ≡ false)))
        → (k : ℕ) × ((k < suc n) × (g k ≡ false))
    go true true x y z h = absurd (subst T z tt)
    go true false x y z h = (n, (lt-suc_self n, y))
    go false b x y z h = let r = h x in (r.0, (le_step r.1.0, r.1.1))

module _ (n : ℕ) (f : ℕ → Rating) where
  -- one that nothing beats beats number i
  pub record BeatenBy (i : ℕ) : Type 0 where
    pub by : ℕ
    pub among : by < n
    pub first : unbeaten n f by ≡ true
    pub beats_it : beats (f by) (f i) ≡ true

  pub front : (most i : ℕ) → size (f i) < most → i < n → (f i).accepted ≡ true → (unbeaten n f i ≡ true) ⊎ BeatenBy i
  unfolding unbeaten
  front zero i h l e = absurd (not-suc-le-zero h)
  front (suc most) i h l e = go (all n (λ j. not (beats (f j) (f i)))) refl (front most)
    where
      through : (j : ℕ) → j < n → beats (f j) (f i) ≡ true → (unbeaten n f j ≡ true) ⊎ BeatenBy j → BeatenBy i
      through j m b (inl u) = record { by = j; among = m; first = u; beats_it = b }
      through j m b (inr k) =
          let x = beats_within (f j) (f i) b in
          let y = beats_within (f k.by) (f j) k.beats_it in
          let v = x.1 in
          let w = y.1 in
          let vs = v.sums in
          let vb = v.below in
          let va = v.above in
          let ws = w.sums in
          let wb = w.below in
          let wa = w.above in
          let p = x.2 in
          let q = y.2 in
          record {
            by = k.by;
            among = k.among;
            first = k.first;
            beats_it =
                within_beats (f k.by) (f i) y.0 (record { sums = omega arith; below = omega arith; above = omega arith }) (omega arith);
          }

      go : (b : Bool) → all n (λ j. not (beats (f j) (f i))) ≡ b
          → ((j : ℕ) → size (f j) < most → j < n → (f j).accepted ≡ true → (unbeaten n f j ≡ true) ⊎ BeatenBy j)
          → (unbeaten n f i ≡ true) ⊎ BeatenBy i
      go true a again = inl (ap₂ ◌&&◌ e a)
      go false a again =
          let k = not_all n (λ j. not (beats (f j) (f i))) a in
          let b = not-false (beats (f k.0) (f i)) k.1.1 in
          let x = beats_within (f k.0) (f i) b in
          let s = x.2 in
          inr (through k.0 k.1.0 b (again k.0 (omega arith) k.1.0 x.0))

  -- what is within one that nothing beats is as good
  pub as_good : (i j : ℕ) → j < n → unbeaten n f i ≡ true → (f j).accepted ≡ true → Within (f j) (f i)
      → ((f j).sums ≡ (f i).sums) × ((f j).below ≡ (f i).below) × ((f j).above ≡ (f i).above)
  unfolding unbeaten
  as_good i j l u e w =
      let a = and_yes (f i).accepted _ (subst T (sym u) tt) in
      let b = all_at n (λ j. not (beats (f j) (f i))) a.1 j l in
      let s = w.sums in
      let o = w.below in
      let t = w.above in
      let g = same (ltb (size (f j)) (size (f i))) refl b in
      (omega arith, omega arith, omega arith)
    where
      same : (b : Bool) → ltb (size (f j)) (size (f i)) ≡ b → T (not (beats (f j) (f i))) → size (f i) ≤ size (f j)
      same true m n = absurd (subst (λ b. T (not b)) (within_beats (f j) (f i) e w (ltb→lt _ _ (subst T (sym m) tt))) n)
      same false m n = nltb→le _ _ (subst (λ b. T (not b)) (sym m) tt)
