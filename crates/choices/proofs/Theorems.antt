-- What is listed covers every choice that is accepted; q3 above 0 gains nothing.
-- Assumes nothing.
use Rattle.std.proofs.Common.{Some, None, ℕ, zero, suc, ◌*◌, ◌/◌, ◌%◌, ◌<◌, le_of_eq, lt-suc_self, mod-lt, arith, ◌≡◌, refl, sym, ap, ap₂, ◌∙◌, subst, Bool, true, false, cond, ◌&&◌, ◌⊎◌, inl, inr, T, leb, ltb, le→leb, lt→ltb, ℤ, pos, neg_ℤ, ◌-ℤ◌, ◌≤ℤ◌}
use Rattle.std.proofs.Math.Nat.{div-add-mod}
use Rattle.std.proofs.Math.Facts.{and_yes, yes_and}
use Rattle.arith.proofs.Bools.{true_of}
use Rattle.layout.specs.declared.Table.{Table}
use Rattle.layout.specs.Contents.{contents}
use Rattle.limits.specs.Limits.{bits_good, drops_good, value_good, shaped, within, acceptable}
use Rattle.rule.specs.Pixels.{full_value, pixel_of}
use Rattle.rule.specs.Questions.{width_good}
use Rattle.rule.specs.Sums.{Image}
use Rattle.figures.specs.Measured.{pixels_above, pixels_below, measured, figures_of}
use Rattle.figures.specs.Off.{full_pixel, pixel_off}
use Rattle.figures.proofs.Theorems.{off_within, full_without_drops}
use Rattle.choices.specs.Choices.{with_drops, choice_count, Rating, rating_of, unbeaten, rating, listed}
use Rattle.choices.specs.Front.{Beaten, no_third, ChoiceOff}
use Rattle.choices.proofs.Fronts.{size, Within, BeatenBy, front, as_good}
use Rattle.choices.proofs.Thirds.{third_less, sums_same, above_less, below_less, accepted_less}

-- `nothing_missed`: every choice that is accepted is listed, or a listed one beats it
pub nothing_missed :
    (t : Table) (l i : ℕ) → i < choice_count t → (rating t l i).accepted ≡ true → (listed t l i ≡ true) ⊎ Beaten t l i
unfolding listed
nothing_missed t l i h e = go (front (choice_count t) (rating t l) (suc (size (rating t l i))) i (lt-suc_self _) h e)
  where
    go : (unbeaten (choice_count t) (rating t l) i ≡ true) ⊎ BeatenBy (choice_count t) (rating t l) i → (listed t l i ≡ true) ⊎ Beaten t l i
    go (inl u) = inl u
    go (inr b) = inr (record { by = b.by; among = b.among; listed = b.first; beats = b.beats_it })

-- ---- q3

-- an accepted rating is that of a table and a width that are accepted
rating-accepted : (t : Table) (l i : ℕ) → (rating t l i).accepted ≡ true → (acceptable (with_drops t i) ≡ true) × (width_good l ≡ true)
unfolding rating figures_of
rating-accepted t l i = go (acceptable (with_drops t i)) (width_good l)
  where
    go : (a w : Bool) → (rating_of (cond (a && w) (Some (measured (with_drops t i) l)) None)).accepted ≡ true → (a ≡ true) × (w ≡ true)
    go true true e = (refl, refl)
    go true false e = absurd (subst T (sym e) tt)
    go false w e = absurd (subst T (sym e) tt)

-- and its figures are those of the table
rating_is : (t : Table) (l i : ℕ) → acceptable (with_drops t i) ≡ true → width_good l ≡ true → rating t l i ≡ rating_of (Some (measured (with_drops t i) l))
unfolding rating figures_of
rating_is t l i a w = rw (a, w) refl

same_rating : (y x : Rating) → y.accepted ≡ x.accepted → (y.sums ≡ x.sums) × (y.below ≡ x.below) × (y.above ≡ x.above) → y ≡ x
same_rating y x a e =
    ap₂ (λ p s. made p s y.below y.above) a e.0 ∙ ap₂ (made x.accepted x.sums) e.1 e.2
  where
    made : Bool → ℕ → ℕ → ℕ → Rating
    made a s b c = record { accepted = a; sums = s; below = b; above = c }

accepted_first : (n : ℕ) (f : ℕ → Rating) (i : ℕ) → unbeaten n f i ≡ true → T (f i).accepted
unfolding unbeaten
accepted_first n f i e = (and_yes (f i).accepted _ (subst T (sym e) tt)).0

-- `third_drop`: a listed choice is no better and no worse than the one with the same q1 and q2 that drops nothing of the window sums
pub third_drop : (t : Table) (l i : ℕ) → i < choice_count t → listed t l i ≡ true → rating t l (no_third i) ≡ rating t l i
unfolding listed
third_drop t l i h e = go (i % 9) refl
  where
    yes_i : (rating t l i).accepted ≡ true
    yes_i = true_of _ (accepted_first (choice_count t) (rating t l) i e)

    go : (k : ℕ) → i % 9 ≡ k → rating t l (no_third i) ≡ rating t l i
    go zero z = let d = div-add-mod i 9 in ap (rating t l) (omega arith)
    go (suc k) z =
        let a = rating-accepted t l i yes_i in
        let b = accepted_less t i (omega arith) a.0 in
        let p = rating_is t l i a.0 a.1 in
        let q = rating_is t l (no_third i) b a.1 in
        let j = third_less i in
        let x = ap (λ r. r.accepted) q in
        let w : Within (rating t l (no_third i)) (rating t l i) =
        rw (p, q) (record { sums = le_of_eq (sums_same t i l); below = below_less t i; above = above_less t i }) in
        same_rating (rating t l (no_third i)) (rating t l i) (x ∙ sym yes_i)
        (as_good (choice_count t) (rating t l) i (no_third i) (omega arith) e x w)

-- ---- what the figures say

full_same : (t : Table) (i : ℕ) (x : Image) (r c : ℤ) → full_pixel (with_drops t i) x r c ≡ pixel_of (with_drops t 0) x r c
unfolding full_pixel full_value
full_same t i x r c = full_without_drops (with_drops t 0) x r c refl refl refl

-- `choice_off`: with an accepted choice, on every scan and at every place, the pixel without drops less the pixel with the choice lies
-- between the two figures that are listed
pub choice_off : (t : Table) (l i : ℕ) → (rating t l i).accepted ≡ true → (x : Image) (r c : ℤ) → ChoiceOff t l i x r c
unfolding pixel_off
choice_off t l i e x r c =
    let a = rating-accepted t l i e in
    let p = rating_is t l i a.0 a.1 in
    let o = off_within (with_drops t i) x r c in
    let f = ap (λ v. v -ℤ pixel_of (with_drops t i) x r c) (full_same t i x r c) in
    record {
      low = rw p (subst (λ v. neg_ℤ (pos (pixels_below (with_drops t i))) ≤ℤ v) f o.low);
      high = rw p (subst (λ v. v ≤ℤ pos (pixels_above (with_drops t i))) f o.high);
    }

-- the drops of a choice are within the limits
drops_within : (b i : ℕ) → i < 81 * b → T (drops_good b (i / 81) (i / 9 % 9) (i % 9))
unfolding drops_good
drops_within b i h =
    let d = div-add-mod i 81 in
    let m = mod-lt (i / 9) {m = 9} (omega arith) in
    let n = mod-lt i {m = 9} (omega arith) in
    yes_and (ltb (i / 81) b) (leb (i / 9 % 9) 8 && leb (i % 9) 8) (lt→ltb (i / 81) b (omega arith))
    (yes_and (leb (i / 9 % 9) 8) (leb (i % 9) 8) (le→leb (i / 9 % 9) 8 (omega arith)) (le→leb (i % 9) 8 (omega arith)))

shaped_with : (t : Table) (i : ℕ) → i < 81 * t.b → T (shaped (contents t)) → T (shaped (contents (with_drops t i)))
unfolding shaped
shaped_with t i h y =
    let p = and_yes (bits_good t.b) _ y in
    let q = and_yes (drops_good t.b t.q1 t.q2 t.q3) _ p.1 in
    yes_and (bits_good t.b) _ p.0 (yes_and (drops_good t.b (i / 81) (i / 9 % 9) (i % 9)) _ (drops_within t.b i h) q.1)

-- `only_ten`: of a choice of an accepted table, question 10 alone decides whether loading accepts it
pub only_ten : (t : Table) (i : ℕ) → acceptable t ≡ true → i < 81 * t.b → acceptable (with_drops t i) ≡ value_good (contents (with_drops t i))
unfolding acceptable within
only_ten t i e h =
    let p = and_yes (shaped (contents t)) _ (subst T (sym e) tt) in
    ap (λ s. s && value_good (contents (with_drops t i))) (true_of (shaped (contents (with_drops t i))) (shaped_with t i h p.0))
