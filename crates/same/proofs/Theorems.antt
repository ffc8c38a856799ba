-- Two tables do the same exactly when their weights are equal, and where not the scan that is handed out shows it.
-- Assumes nothing.
use Rattle.std.proofs.Common.{ℕ, ◌+◌, ◌-◌, ◌*◌, ◌/◌, ◌%◌, ◌^◌, ◌≤◌, ◌<◌, mod-lt, arith, ◌≡◌, refl, sym, ap, ap₂, ◌∙◌, subst, Bool, true, false, not, cond, ◌&&◌, List, [], ◌∷◌, ◌≢◌, T, eqb, ltb, eqb→eq, leb→le, ltb→lt, nltb→le, ℤ, pos, ◌+ℤ◌, ◌*ℤ◌, length, take, drop, pow_mono, take_at, le-ltb, le-leb}
use Rattle.std.proofs.Math.Nat.{div-add-mod, eq_of_mul-eq-mul_right}
use Rattle.std.proofs.Math.Facts.{and_yes}
use Rattle.arith.specs.Floor.{floor_div}
use Rattle.arith.specs.Part.{pos_part, neg_part}
use Rattle.arith.specs.Sum.{sum}
use Rattle.arith.proofs.Bools.{true_of}
use Rattle.arith.proofs.Firsts.{first_none, first_before, first_fails}
use Rattle.arith.proofs.Ints.{diff_parts, diff_scale, diff_eq, diff_eq_z, eq_z→eq, eq→eq_z}
use Rattle.arith.proofs.Sums.{sum_cong}
use Rattle.layout.specs.declared.Table.{Table}
use Rattle.layout.specs.Contents.{contents}
use Rattle.layout.specs.Answers.{refused, accepted, first_no, wrote}
use Rattle.layout.proofs.Questions.{all_accepted, first_yes, same_questions}
use Rattle.grid.specs.Grid.{offset}
use Rattle.limits.specs.Limits.{no_drops, acceptable}
use Rattle.limits.proofs.Granted.{Granted, granted}
use Rattle.table.specs.Format.{refused as no_table, load_of, table_from}
use Rattle.table.proofs.Theorems.{refused_table}
use Rattle.rule.specs.Sums.{sample_at}
use Rattle.rule.specs.Pixels.{cut_value, pixel_of}
use Rattle.rule.specs.Mended.{dead}
use Rattle.rule.proofs.Fitting.{entries}
use Rattle.pixel.specs.Call.{pixel_asks, pixel_answer}
use Rattle.same.specs.Same.{heads_alike, neither_drops, same_asks, weight_at, alike_at, first_unlike, spot, difference_at, compared_at, same_of}
use Rattle.same.specs.Meaning.{Comparable, SameWeights, SameOnImages, SameAtCentres, Exactly, Shows, ToldApart}
use Rattle.same.proofs.Answers.{none_two, two_values}
use Rattle.same.proofs.Spots.{spot_long, spot_good, spot_value, spot_taken}

-- ---- what the questions tell

pub record Heads (t u : Table) : Type 0 where
  pub bits : t.b ≡ u.b
  pub shift : t.t ≡ u.t
  pub word : t.w ≡ u.w

heads_of : (t u : Table) → heads_alike t u ≡ true → Heads t u
unfolding heads_alike
heads_of t u e =
    let x = and_yes (eqb t.b u.b) (eqb t.t u.t && eqb t.w u.w) (subst T (sym e) tt) in
    let y = and_yes (eqb t.t u.t) (eqb t.w u.w) x.1 in
    record { bits = eqb→eq t.b u.b x.0; shift = eqb→eq t.t u.t y.0; word = eqb→eq t.w u.w y.1 }

drops_of : (t u : Table) → neither_drops t u ≡ true → (no_drops (contents t) ≡ true) × (no_drops (contents u) ≡ true)
unfolding neither_drops
drops_of t u e =
    let x = and_yes (no_drops (contents t)) (no_drops (contents u)) (subst T (sym e) tt) in
    (true_of (no_drops (contents t)) x.0, true_of (no_drops (contents u)) x.1)

-- the brightest sample is one that a live element can send, and not dark
top_bounds : (t : Table) → Granted t → (0 < 2 ^ t.b - 1) × (2 ^ t.b - 1 < dead)
top_bounds t g =
    let q = g.q1_less in
    let l = pow_mono {i = 1} {j = t.b} (omega arith) in
    let m = pow_mono {j = 12} g.bits_most in
    (omega arith, omega arith)

-- ---- weights and values

-- a factor above 0 is taken off both sides
scale_cancel : (n : ℕ) → 0 < n → (y z : ℤ) → y *ℤ pos n ≡ z *ℤ pos n → y ≡ z
scale_cancel n h y z e =
    let dy = diff_scale n (diff_parts y) in
    let dz = diff_scale n (diff_parts z) in
    let s = eqb→eq (pos_part y * n + neg_part z * n) (pos_part z * n + neg_part y * n) (subst T (diff_eq_z dy dz) (eq→eq_z e)) in
    diff_eq (diff_parts y) (diff_parts z) (eq_of_mul-eq-mul_right n h (pos_part y + neg_part z) (pos_part z + neg_part y) (omega arith))

module _ (t u : Table) (c : Comparable t u) where
  gt : Granted t
  gt = granted t c.one

  gu : Granted u
  gu = granted u c.other

  nt : no_drops (contents t) ≡ true
  nt = (drops_of t u c.drops).0

  nu : no_drops (contents u) ≡ true
  nu = (drops_of t u c.drops).1

  -- equal weights give equal values on every image
  pub weights_suffice : SameWeights t u → SameOnImages t u
  weights_suffice w x r s =
      let p = side pos_part in
      let n = side neg_part in
      diff_eq (entries t gt nt x r s) (entries u gu nu x r s) (omega arith)
    where
      side : (part : ℤ → ℕ)
          → sum 31 (λ a. sum 31 (λ b. part (weight_at t a b) * x (r +ℤ offset a) (s +ℤ offset b)))
          ≡ sum 31 (λ a. sum 31 (λ b. part (weight_at u a b) * x (r +ℤ offset a) (s +ℤ offset b)))
      side part = sum_cong 31 (λ a h. sum_cong 31 (λ b l. ap (λ z. part z * x (r +ℤ offset a) (s +ℤ offset b)) (w a b h l)))

  -- and equal values at the centres of scans that are dark but for one sample give equal weights
  pub centres_suffice : SameAtCentres t u → SameWeights t u
  centres_suffice v a b h l =
      let top = top_bounds t gt in
      scale_cancel (2 ^ t.b - 1) top.0 (weight_at t a b) (weight_at u a b)
      (sym (spot_value (2 ^ t.b - 1) a b t gt nt top.1 h l)
      ∙ v (spot (2 ^ t.b - 1) a b) (spot_long (2 ^ t.b - 1) a b) (spot_good (2 ^ t.b - 1) a b)
      ∙ spot_value (2 ^ t.b - 1) a b u gu nu top.1 h l)

-- ---- weights and the answer

-- place a·31 + b is row a, column b
place_parts : (a b : ℕ) → a < 31 → b < 31 → ((a * 31 + b) / 31 ≡ a) × ((a * 31 + b) % 31 ≡ b) × (a * 31 + b < 961)
place_parts a b h l =
    let d = div-add-mod (a * 31 + b) 31 in
    let m = mod-lt (a * 31 + b) {m = 31} (omega arith) in
    (omega arith, omega arith, omega arith)

row_less : (k : ℕ) → k < 961 → k / 31 < 31
row_less k h = let d = div-add-mod k 31 in omega arith

column_less : (k : ℕ) → k % 31 < 31
column_less k = mod-lt k {m = 31} (omega arith)

none_unlike : (t u : Table) → SameWeights t u → first_unlike t u ≡ 961
unfolding first_unlike alike_at
none_unlike t u w = first_none 961 (alike_at t u) (λ k h. eq→eq_z (w (k / 31) (k % 31) (row_less k h) (column_less k)))

-- offsets before the first unlike one have equal weights
like_before : (t u : Table) (k : ℕ) → k < first_unlike t u → weight_at t (k / 31) (k % 31) ≡ weight_at u (k / 31) (k % 31)
unfolding first_unlike alike_at
like_before t u k h = eq_z→eq (weight_at t (k / 31) (k % 31)) (weight_at u (k / 31) (k % 31)) (first_before 961 (alike_at t u) k h)

all_like : (t u : Table) → 961 ≤ first_unlike t u → SameWeights t u
all_like t u h a b i j =
    let p = place_parts a b i j in
    let e = like_before t u (a * 31 + b) (omega arith) in
    sym (ap₂ (weight_at t) p.0 p.1) ∙ e ∙ ap₂ (weight_at u) p.0 p.1

first_unlike_lem : (t u : Table) → first_unlike t u < 961 → weight_at t (first_unlike t u / 31) (first_unlike t u % 31) ≢ weight_at u (first_unlike t u / 31) (first_unlike t u % 31)
unfolding first_unlike alike_at
first_unlike_lem t u h e = subst T (first_fails 961 (alike_at t u) h) (eq→eq_z e)

-- what is left where the questions are answered yes
asked_all : (t u : Table) → Comparable t u → (scan : List ℕ) → 961 ≤ length scan → same_of t u scan ≡ compared_at t (first_unlike t u) scan
unfolding same_of same_asks
asked_all t u c scan n =
    all_accepted (same_asks t u (length scan)) (λ number place. wrote (refused number place) scan) (compared_at t (first_unlike t u) scan)
    (c.one, (c.other, (c.heads, (c.drops, (le-leb 961 (length scan) n, tt)))))

-- where no offset is left, the call says same
says_same : (t : Table) (k : ℕ) (scan : List ℕ) → 961 ≤ k → (compared_at t k scan).said ≡ accepted []
unfolding compared_at
says_same t k scan h = rw (le-ltb k 961 h) refl

-- and only there
same_only : (t : Table) (k : ℕ) (scan : List ℕ) → (compared_at t k scan).said ≡ accepted [] → 961 ≤ k
unfolding compared_at
same_only t k scan e = go (ltb k 961) (nltb→le k 961) e
  where
    go : (b : Bool) → (T (not b) → 961 ≤ k) → (cond b (difference_at t k scan) (wrote (accepted []) scan)).said ≡ accepted [] → 961 ≤ k
    go true f z = absurd (none_two (sym z))
    go false f z = f tt

compared_said : (t : Table) (k : ℕ) (xs ys : List ℕ) → (compared_at t k xs).said ≡ (compared_at t k ys).said
unfolding compared_at
compared_said t k xs ys = go (ltb k 961)
  where
    go : (b : Bool) → (cond b (difference_at t k xs) (wrote (accepted []) xs)).said ≡ (cond b (difference_at t k ys) (wrote (accepted []) ys)).said
    go true = refl
    go false = refl

-- M106-2: of accepted tables without drops and with equal b, t and w the values are equal on every scan, width and place exactly when
-- the weights are equal at all 961 offsets, and exactly then the call answers same
pub same_exactly : (t u : Table) → Comparable t u → (scan : List ℕ) → 961 ≤ length scan → Exactly t u scan
same_exactly t u c scan n =
    record {
      values = ((λ v. centres_suffice t u c (λ xs long good. v 31 xs (pos 15) (pos 15))), λ w l xs. weights_suffice t u c w (sample_at l xs));
      answer = (
        (λ e. all_like t u (same_only t (first_unlike t u) scan (sym (ap (λ x. x.said) (asked_all t u c scan n)) ∙ e))),
        λ w. ap (λ x. x.said) (asked_all t u c scan n) ∙ says_same t (first_unlike t u) scan (let z = none_unlike t u w in omega arith),
      );
      images = weights_suffice t u c;
      centres = centres_suffice t u c;
    }

same_asks_lem : (t u : Table) → Comparable t u → (l : ℕ) (xs : List ℕ) (r s : ℕ) → pixel_asks t l xs r s ≡ pixel_asks u l xs r s
unfolding pixel_asks
same_asks_lem t u c l xs r s = rw (c.one, c.other, (heads_of t u c.heads).bits) refl

-- tables that do the same get the same answer from the one-pixel call, whatever it is asked
pub same_pixels : (t u : Table) → Comparable t u → SameWeights t u → (l : ℕ) (xs : List ℕ) (r s : ℕ) → pixel_answer t l xs r s ≡ pixel_answer u l xs r s
unfolding pixel_answer pixel_of
same_pixels t u c w l xs r s =
    ap₂ (λ asked p. first_no asked refused (accepted (p ∷ []))) (same_asks_lem t u c l xs r s)
    (ap₂ floor_div (weights_suffice t u c w (sample_at l xs) (pos r) (pos s)) (heads_of t u c.heads).shift)

-- ---- where they differ

-- the questions that a call was answered that did not refuse
comparable : (t u : Table) (scan : List ℕ) → (same_of t u scan).said.kind ≡ 1
    → Comparable t u × (961 ≤ length scan) × (same_of t u scan ≡ compared_at t (first_unlike t u) scan)
unfolding same_of same_asks
comparable t u scan e =
    let y = first_yes (λ x. eqb x.said.kind 0) (same_asks t u (length scan)) (λ number place. wrote (refused number place) scan)
    (compared_at t (first_unlike t u) scan) (λ n p. refl) (ap (λ k. eqb k 0) e) in
    let z = y.0 in (
      record { one = z.0; other = z.1.0; heads = z.1.1.0; drops = z.1.1.1.0 },
      leb→le 961 (length scan) (subst T (sym z.1.1.1.1.0) tt),
      y.1,
    )

-- what it answers and writes where it does not say same
differs_at : (t : Table) (k : ℕ) (scan : List ℕ) (row col : ℤ) → (compared_at t k scan).said ≡ accepted (row ∷ col ∷ [])
    → (k < 961) × (row ≡ offset (k / 31)) × (col ≡ offset (k % 31)) × (take 961 (compared_at t k scan).out ≡ spot (2 ^ t.b - 1) (k / 31) (k % 31))
unfolding compared_at
differs_at t k scan row col e = go (ltb k 961) (ltb→lt k 961) e
  where
    top : ℕ
    top = 2 ^ t.b - 1

    go : (b : Bool) → (T b → k < 961) → (cond b (difference_at t k scan) (wrote (accepted []) scan)).said ≡ accepted (row ∷ col ∷ [])
        → (k < 961) × (row ≡ offset (k / 31)) × (col ≡ offset (k % 31))
        × (take 961 (cond b (difference_at t k scan) (wrote (accepted []) scan)).out ≡ spot top (k / 31) (k % 31))
    go true f z =
        let v = two_values z in
        (f tt, sym v.0, sym v.1, take_at (spot top (k / 31) (k % 31)) (drop 961 scan) 961 (spot_long top (k / 31) (k % 31)))
    go false f z = absurd (none_two z)

module _ (t u : Table) (c : Comparable t u) (h : first_unlike t u < 961) where
  abbrev a : ℕ
  a = first_unlike t u / 31

  abbrev b : ℕ
  b = first_unlike t u % 31

  abbrev top : ℕ
  top = 2 ^ t.b - 1

  bright : (0 < top) × (top < dead)
  bright = top_bounds t (gt t u c)

  -- the first table takes the scan with its own brightest sample, and the second has the same
  shows_one : Shows t (spot top a b) a b
  shows_one =
      record {
        taken = spot_taken t top a b c.one refl;
        value = spot_value top a b t (gt t u c) (nt t u c) bright.1 (row_less (first_unlike t u) h) (column_less (first_unlike t u));
      }

  shows_other : Shows u (spot top a b) a b
  shows_other =
      let e : top ≡ 2 ^ u.b - 1 = ap (λ n. 2 ^ n - 1) (heads_of t u c.heads).bits in
      record {
        taken = spot_taken u top a b c.other e;
        value =
            spot_value top a b u (gu t u c) (nu t u c) bright.1 (row_less (first_unlike t u) h) (column_less (first_unlike t u))
            ∙ ap (λ n. weight_at u a b *ℤ pos n) e;
      }

  values_differ : cut_value t (sample_at 31 (spot top a b)) (pos 15) (pos 15) ≢ cut_value u (sample_at 31 (spot top a b)) (pos 15) (pos 15)
  values_differ e =
      let i = row_less (first_unlike t u) h in
      let j = column_less (first_unlike t u) in
      first_unlike_lem t u h
      (scale_cancel top bright.0 (weight_at t a b) (weight_at u a b)
      (sym (spot_value top a b t (gt t u c) (nt t u c) bright.1 i j) ∙ e ∙ spot_value top a b u (gu t u c) (nu t u c) bright.1 i j))

  apart : {row col : ℤ} → row ≡ offset a → col ≡ offset b → ToldApart t u row col (spot top a b)
  apart r s =
      let d = div-add-mod (first_unlike t u) 31 in
      record {
        a = a;
        b = b;
        a_less = row_less (first_unlike t u) h;
        b_less = column_less (first_unlike t u);
        row_is = r;
        col_is = s;
        scan_is = refl;
        before = λ k l. like_before t u k (omega arith);
        unlike = first_unlike_lem t u h;
        one = shows_one;
        other = shows_other;
        differ = values_differ;
      }

-- M106-3: where the call names an offset, that is the first where the weights differ, and the scan that it wrote shows it: the one-pixel
-- call takes it for both tables, the values at its centre are 2^b - 1 times the weights, and they differ
pub spot_shows : (t u : Table) (scan : List ℕ) (row col : ℤ) → (same_of t u scan).said ≡ accepted (row ∷ col ∷ [])
    → ToldApart t u row col (take 961 (same_of t u scan).out)
spot_shows t u scan row col e =
    let y = comparable t u scan (ap (λ s. s.kind) e) in
    let d = differs_at t (first_unlike t u) scan row col (sym (ap (λ x. x.said) y.2) ∙ e) in
    subst (ToldApart t u row col) (sym (ap (λ x. take 961 x.out) y.2 ∙ d.3)) (apart t u y.0 d.0 d.1 d.2)

-- what the call says goes by the number of lent places, whatever they hold
pub said_by_length : (t u : Table) (xs ys : List ℕ) → length xs ≡ length ys → (same_of t u xs).said ≡ (same_of t u ys).said
unfolding same_of
said_by_length t u xs ys e =
    subst (λ n. (same_of t u xs).said ≡ (first_no (same_asks t u n) (λ number place. wrote (refused number place) ys) (compared_at t (first_unlike t u) ys)).said) e
    (same_questions (λ x y. x.said ≡ y.said) (same_asks t u (length xs)) (λ number place. wrote (refused number place) xs)
    (compared_at t (first_unlike t u) xs) (λ number place. wrote (refused number place) ys) (compared_at t (first_unlike t u) ys) (λ n p. refl)
    (λ y. compared_said t (first_unlike t u) xs ys))

-- J4: with the table that loading hands out for a refused file, whichever of the two it is, the call is refused by question 11
pub refused_same : (bs : List ℕ) (n p : ℕ) → load_of bs ≡ no_table n p → (t : Table) (scan : List ℕ)
    → (same_of (table_from (load_of bs)) t scan ≡ wrote (refused 11 0) scan) × (same_of t (table_from (load_of bs)) scan ≡ wrote (refused 11 0) scan)
unfolding same_of same_asks
refused_same bs n p e t scan = (rw (refused_table bs n p e).0 refl, rw (refused_table bs n p e).0 (either (acceptable t)))
  where
    either : (b : Bool) → cond b (wrote (refused 11 0) scan) (wrote (refused 11 0) scan) ≡ wrote (refused 11 0) scan
    either true = refl
    either false = refl
