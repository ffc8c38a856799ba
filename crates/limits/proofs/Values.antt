-- The questions on a table's contents, asked of the struct's slots.
-- Assumes nothing.
use Rattle.std.proofs.Common.{ℕ, ◌+◌, ◌-◌, ◌*◌, ◌/◌, ◌^◌, ◌≤◌, ◌<◌, le_trans, lt_of_le_of_lt, mul-le-mul, mul-le-mul_left, ◌≡◌, refl, sym, ap, ap₂, ◌∙◌, subst, Bool, true, false, cond, ◌&&◌, T, leb, ltb, eqb, leb→le, ltb→lt, eqb→eq, le→leb, lt→ltb, eq-eqb, arith, pow-add, pow_mono, length, get_or, ℤ, All, ◌↔◌, FitsSigned, w16}
use Rattle.std.proofs.Math.Facts.{and_yes, yes_and}
use Rattle.std.proofs.Math.Pow.{shr_mono}
use Rattle.std.proofs.lemmas.List.{get_or-take, length-take-le}
use Rattle.std.proofs.lemmas.List.Elements.{All-get_or, All-from_get_or}
use mir.Syntax.{w64}
use mir.Val.{Fits}
use Rattle.arith.proofs.Bools.{bool_eq, true_of}
use Rattle.arith.specs.All.{all}
use Rattle.arith.specs.Part.{pos_part, neg_part}
use Rattle.arith.specs.Twos.{fits_signed}
use Rattle.arith.proofs.Alls.{all_cong, all_of, all_at}
use Rattle.arith.proofs.Words.{floor_fits_pos, floor_fits_neg, mag_fits}
use Rattle.arith.proofs.Tabs.{length-tab, get_or-tab}
use Rattle.layout.specs.declared.Rect.{Rect}
use Rattle.layout.specs.declared.Table.{Table}
use Rattle.layout.specs.Contents.{Contents, contents, rect, rects_of, no_rect}
use Rattle.grid.specs.Grid.{area_sum, sum_most, grid_sum}
use Rattle.grid.proofs.Entries.{area_cong, grid_cong}
use Rattle.grid.proofs.Below.{grid_below_high, grid_below_low}
use Rattle.limits.specs.Limits.{bits_good, drops_good, word_good, rect_good, no_drops, extreme, extremes_fit, value_good, areas_good, shaped, within, fitting, acceptable}
use Rattle.limits.specs.Slots.{sound, slot_good, areas_fit}

-- an extreme, of the slots
abbrev pub slot_extreme : (part : ℤ → ℕ) → Table → ℕ
slot_extreme part t =
    (2 ^ t.b - 1) * cond (no_drops (contents t)) (grid_sum part t.count (rect t)) (area_sum part t.count (rect t))

-- rectangle k of the contents is slot k
pub slot : (t : Table) (k : ℕ) → k < t.count → get_or (contents t).rects k no_rect ≡ rect t k
slot t k h = get_or-tab t.count (rect t) k no_rect h

pub slots : (t : Table) → length (contents t).rects ≡ t.count
slots t = length-tab t.count (rect t)

pub extreme_slots : (part : ℤ → ℕ) (t : Table) → extreme part (contents t) ≡ slot_extreme part t
unfolding extreme
extreme_slots part t =
    rw (slots t, grid_cong t.count (slot t) part, area_cong t.count (slot t) part) refl

-- all but question 10, of the slots
pub shaped_slots : (t : Table) →
    shaped (contents t)
    ≡ (bits_good t.b && (drops_good t.b t.q1 t.q2 t.q3 && (word_good t.t t.w
    && (leb 1 t.count && (leb t.count 16 && all t.count (slot_good t))))))
unfolding shaped
shaped_slots t =
    let e = all_cong t.count (λ k h. ap (λ r. rect_good r && fits_signed 16 r.weight) (slot t k h)) in
    rw (slots t, e)

regroup : (a b c d e f g : Bool) → ((a && (b && (c && (d && (e && f))))) && g) ≡ (d && ((a && (b && (c && (e && g)))) && f))
regroup a b c d e f g =
    bool_eq _ _
    (λ t.
    let z = and_yes (a && (b && (c && (d && (e && f))))) g t in
    let p = and_yes a _ z.0 in
    let q = and_yes b _ p.1 in
    let r = and_yes c _ q.1 in
    let s = and_yes d _ r.1 in
    let u = and_yes e f s.1 in
    yes_and d _ s.0 (yes_and (a && (b && (c && (e && g)))) f
    (yes_and a _ p.0 (yes_and b _ q.0 (yes_and c _ r.0 (yes_and e g u.0 z.1)))) u.1))
    (λ t.
    let p = and_yes d _ t in
    let q = and_yes (a && (b && (c && (e && g)))) f p.1 in
    let r = and_yes a _ q.0 in
    let s = and_yes b _ r.1 in
    let u = and_yes c _ s.1 in
    let v = and_yes e g u.1 in
    yes_and (a && (b && (c && (d && (e && f))))) g
    (yes_and a _ r.0 (yes_and b _ s.0 (yes_and c _ u.0 (yes_and d _ p.0 (yes_and e f v.0 q.1)))))
    v.1)

-- question 11 in the order in which the code asks it
pub acceptable_asked : (t : Table) → acceptable t ≡ (leb 1 t.count && (fitting t && all t.count (slot_good t)))
unfolding acceptable within fitting
acceptable_asked t =
    ap (λ s. s && value_good (contents t)) (shaped_slots t)
    ∙ regroup (bits_good t.b) (drops_good t.b t.q1 t.q2 t.q3) (word_good t.t t.w) (leb 1 t.count) (leb t.count 16)
    (all t.count (slot_good t)) (value_good (contents t))

-- a weight of 16 bits
pub weight_fits : (z : ℤ) → FitsSigned w16 z → fits_signed 16 z ≡ true
weight_fits z f = true_of (fits_signed 16 z) (mag_fits 16 z f.sfits)

-- a struct's slots, from what is asked of its rectangles
pub slots_asked : (t : Table) (b : Bool) → t.count ≤ 16 → length t.rects ≡ 16 → (b ≡ true ↔ All (λ r. sound r ≡ true) (rects_of t))
    → b ≡ all t.count (slot_good t)
slots_asked t b few full asked =
    bool_eq b (all t.count (slot_good t))
    (λ y. all_of t.count (slot_good t) (λ k h.
    let good = All-get_or (λ r. sound r ≡ true) (rects_of t) k no_rect (omega (arith, h, long)) (asked.0 (true_of _ y)) in
    subst T (sym (ap sound (sym (get_or-take t.count t.rects k no_rect h)) ∙ good)) tt))
    (λ y. subst T (sym (asked.1 (All-from_get_or (λ r. sound r ≡ true) (rects_of t) no_rect (λ k h.
    let l : k < t.count = omega (arith, h, long) in
    ap sound (get_or-take t.count t.rects k no_rect l) ∙ true_of _ (all_at t.count (slot_good t) y k l))))) tt)
  where
    long : length (rects_of t) ≡ t.count
    long = length-take-le t.count t.rects (omega (arith, few, full))

-- ---- question 10

-- in unsigned numbers
pub fit_unsigned : (high low t w : ℕ) → extremes_fit high low t w ≡ (ltb (high / 2 ^ t) (2 ^ (w - 1)) && leb low (2 ^ (w - 1 + t)))
unfolding extremes_fit
fit_unsigned high low t w =
    ap₂ ◌&&◌ (floor_fits_pos w t high) (floor_fits_neg w t low ∙ ap (leb low) (sym (pow-add 2 (w - 1) t)))

-- smaller extremes fit where larger ones do
pub fit_below : {high low top bottom : ℕ} (t w : ℕ) → high ≤ top → low ≤ bottom → T (extremes_fit top bottom t w) → T (extremes_fit high low t w)
fit_below {high} {low} {top} {bottom} t w h l y =
    let f = and_yes (ltb (top / 2 ^ t) (2 ^ (w - 1))) (leb bottom (2 ^ (w - 1 + t))) (subst T (fit_unsigned top bottom t w) y) in
    rw (fit_unsigned high low t w)
    (yes_and (ltb (high / 2 ^ t) (2 ^ (w - 1))) (leb low (2 ^ (w - 1 + t)))
    (lt→ltb _ _ (lt_of_le_of_lt (shr_mono t h) (ltb→lt (top / 2 ^ t) (2 ^ (w - 1)) f.0)))
    (le→leb _ _ (le_trans l (leb→le bottom (2 ^ (w - 1 + t)) f.1))))

-- bits are dropped where a drop is not 0
pub drops_none : (c : Contents) → c.q1 + c.q2 + c.q3 ≡ 0 → no_drops c ≡ true
unfolding no_drops
drops_none c e = rw (eq-eqb c.q1 0 (omega arith), eq-eqb c.q2 0 (omega arith), eq-eqb c.q3 0 (omega arith)) refl

pub no_drops_lem : (c : Contents) → no_drops c ≡ true → (c.q1 ≡ 0) × (c.q2 ≡ 0) × (c.q3 ≡ 0)
unfolding no_drops
no_drops_lem c e =
    let a = and_yes (eqb c.q1 0) (eqb c.q2 0 && eqb c.q3 0) (subst T (sym e) tt) in
    let b = and_yes (eqb c.q2 0) (eqb c.q3 0) a.1 in
    (eqb→eq c.q1 0 a.0, eqb→eq c.q2 0 b.0, eqb→eq c.q3 0 b.1)

pub drops_some : (c : Contents) → 0 < c.q1 + c.q2 + c.q3 → no_drops c ≡ false
drops_some c h = bool_eq _ false (λ y. let z = no_drops_lem c (true_of _ y) in absurd (omega arith)) (λ n. absurd n)

-- question 10 by the grid, and by the areas
module _ (t : Table) where
  abbrev by : (b : Bool) → Bool
  by b =
      extremes_fit ((2 ^ t.b - 1) * cond b (grid_sum pos_part t.count (rect t)) (area_sum pos_part t.count (rect t)))
      ((2 ^ t.b - 1) * cond b (grid_sum neg_part t.count (rect t)) (area_sum neg_part t.count (rect t))) t.t t.w

  pub value_by : {b : Bool} → no_drops (contents t) ≡ b → value_good (contents t) ≡ by b
  unfolding value_good
  value_by e = rw (extreme_slots pos_part t, extreme_slots neg_part t) (ap by e)

  -- the extremes by the areas, of the slots
  pub areas_slots : areas_good (contents t) ≡ areas_fit t t.t t.w
  unfolding areas_good
  areas_slots = rw (slots t, area_cong t.count (slot t) pos_part, area_cong t.count (slot t) neg_part) refl

-- extremes by the areas that fit answer it with yes, drops or not: what was accepted before M-104 still is
pub areas_suffice : (c : Contents) → T (areas_good c) → T (value_good c)
unfolding areas_good value_good extreme
areas_suffice c y = go (no_drops c)
  where
    f : ℕ → Rect
    f k = get_or c.rects k no_rect

    n : ℕ
    n = length c.rects

    go : (b : Bool)
        → T (extremes_fit ((2 ^ c.b - 1) * cond b (grid_sum pos_part n f) (area_sum pos_part n f))
        ((2 ^ c.b - 1) * cond b (grid_sum neg_part n f) (area_sum neg_part n f)) c.t c.w)
    go true =
        fit_below c.t c.w (mul-le-mul_left (2 ^ c.b - 1) (grid_below_high n f)) (mul-le-mul_left (2 ^ c.b - 1) (grid_below_low n f)) y
    go false = y

-- ---- extremes by sums, in machine words

-- (2^b - 1) times a sum fits, for b up to 12
pub extreme_fits : {b p x : ℕ} → b ≤ 12 → p ≡ 2 ^ b → x ≤ sum_most → Fits w64 ((p - 1) * x)
extreme_fits {b} {p} {x} h e l =
    let q = pow_mono {j = 12} h in
    let n : p - 1 ≤ 4095 = omega arith in
    let m = mul-le-mul n l in
    omega arith

-- an answer by two sums is that of their extremes, where the word is good
pub fit_by_sums : (b shift word : ℕ) {g : Bool} {p high low h l : ℕ} → word_good shift word ≡ true → p ≡ 2 ^ b → high ≡ h → low ≡ l
    → g ≡ (word_good shift word && extremes_fit ((p - 1) * high) ((p - 1) * low) shift word)
    → g ≡ extremes_fit ((2 ^ b - 1) * h) ((2 ^ b - 1) * l) shift word
fit_by_sums b shift word w p x y e = rw (w, p, x, y) at e
