-- The rows of a scan and the flat list of them.
-- Assumes nothing.
use Prim.Native.Nat.{ℕ, zero, suc, ◌+◌, ◌-◌, ◌*◌, ◌^◌, ◌≤◌, ◌<◌, zero-le}
use native.Mathlib.Nat.{not-suc-le-zero, mul-le-mul_right}
use native.Mathlib.Omega.{arith}
use mathlib.Core.Path.{◌≡◌, refl, sym, ap, ◌∙◌, subst}
use mathlib.Core.Bool.{Bool, true, false, not, cond}
use mathlib.Core.List.{List, [], ◌∷◌, ◌++◌, append_assoc}
use lib.Dec.{T, ltb, eqb, eqb→eq, ltb→lt, nltb→le}
use lib.IntN.{ℤ, pos, negsuc}
use lib.ListN.{length, get_or, length-append, get_or-append, get_or-eq_default}
use lib.Seq.{get_or-append-add}
use mir.Facts.{and_yes, yes_and}
use borrow.Author.Tests.{lt-ltb, le-ltb, eq-eqb}
use Rattle.arith.specs.All.{all}
use Rattle.arith.proofs.Alls.{all_at, all_of}
use Rattle.arith.proofs.Bools.{true_of}
use Rattle.rule.specs.Mended.{mended_at, mended}
use Rattle.rule.proofs.Asked.{has_bits}
use Rattle.rule.proofs.Mended.{small_good, mended_zero, mended_cong, get_or-mended}
use Rattle.rule.specs.Questions.{sample_good}
use Rattle.rule.specs.Sums.{Image, HasBits, sample_at}
use Rattle.model.specs.Rows.{flat, scanned, good_rows}

-- a scan of rows of l samples of b bits
pub record InFrame (l b : ℕ) (x : Image) : Type 0 where
  pub above : (i : ℕ) (j : ℤ) → x (negsuc i) j ≡ 0
  pub left : (i : ℤ) (j : ℕ) → x i (negsuc j) ≡ 0
  pub right : (i : ℤ) (j : ℕ) → l ≤ j → x i (pos j) ≡ 0
  pub bits : HasBits b x

-- rows that are good
pub record Good (l b : ℕ) (row : List ℕ) (rows : List (List ℕ)) : Type 0 where
  pub long : length row ≡ l
  pub small : T (all (length row) (sample_good (2 ^ b - 1) row))
  pub rest : T (good_rows l b rows)

pub good : (l b : ℕ) (row : List ℕ) (rows : List (List ℕ)) → T (good_rows l b (row ∷ rows)) → Good l b row rows
unfolding good_rows
good l b row rows h =
    let a = and_yes (eqb (length row) l) _ h in
    let c = and_yes (all (length row) (sample_good (2 ^ b - 1) row)) (good_rows l b rows) a.1 in
    record { long = eqb→eq (length row) l a.0; small = c.0; rest = c.1 }

pub flat-length : (l b : ℕ) (rows : List (List ℕ)) → T (good_rows l b rows) → length (flat rows) ≡ length rows * l
unfolding flat
flat-length l b [] h = omega arith
flat-length l b (row ∷ rows) h =
    let g = good l b row rows h in
    let e = length-append row (flat rows) in
    let n = g.long in
    let m = flat-length l b rows g.rest in
    omega arith

-- row i stands in the flat list from place i·l on
pub flat_at :
    (l b : ℕ) (rows : List (List ℕ)) → T (good_rows l b rows) → (i c : ℕ) → i < length rows → c < l
    → get_or (get_or rows i []) c 0 ≡ get_or (flat rows) (i * l + c) 0
unfolding flat
flat_at l b [] h i c p q = absurd (not-suc-le-zero p)
flat_at l b (row ∷ rows) h zero c p q =
    let n = (good l b row rows h).long in
    let e : 0 * l + c ≡ c = omega arith in
    sym (ap (λ k. get_or (row ++ flat rows) k 0) e ∙ get_or-append row (flat rows) 0 c (omega arith))
flat_at l b (row ∷ rows) h (suc i) c p q =
    let g = good l b row rows h in
    let n = g.long in
    let e : suc i * l + c ≡ length row + (i * l + c) = omega arith in
    flat_at l b rows g.rest i c (omega arith) q
    ∙ sym (ap (λ k. get_or (row ++ flat rows) k 0) e ∙ get_or-append-add row (flat rows) (i * l + c) 0)

-- question 18 accepts every sample of the flat list
flat_good : (l b : ℕ) (rows : List (List ℕ)) → T (good_rows l b rows) → (k : ℕ) → T (sample_good (2 ^ b - 1) (flat rows) k)
unfolding flat
flat_good l b [] h k = small_good {x = 0} {m = 2 ^ b - 1} zero-le
flat_good l b (row ∷ rows) h k = go (flat_good l b rows g.rest) (ltb k (length row)) (ltb→lt k (length row)) (nltb→le k (length row))
  where
    g : Good l b row rows
    g = good l b row rows h

    go : ((k : ℕ) → T (sample_good (2 ^ b - 1) (flat rows) k)) → (q : Bool) → (T q → k < length row) → (T (not q) → length row ≤ k)
        → T (sample_good (2 ^ b - 1) (row ++ flat rows) k)
    go more true y n = rw (get_or-append row (flat rows) 0 k (y tt)) (all_at (length row) (sample_good (2 ^ b - 1) row) g.small k (y tt))
    go more false y n =
        let m = n tt in
        let e : k ≡ length row + (k - length row) = omega arith in
        subst (λ i. T (sample_good (2 ^ b - 1) (row ++ flat rows) i)) (sym e)
        (rw (get_or-append-add row (flat rows) (k - length row) 0) (more (k - length row)))

pub flat_bits : (l b : ℕ) (rows : List (List ℕ)) → T (good_rows l b rows) → T (all (length (flat rows)) (sample_good (2 ^ b - 1) (flat rows)))
flat_bits l b rows h = all_of (length (flat rows)) (sample_good (2 ^ b - 1) (flat rows)) (λ k p. flat_good l b rows h k)

-- the scan of good rows
pub rows_framed : (l b : ℕ) (rows : List (List ℕ)) → T (good_rows l b rows) → InFrame l b (sample_at l (flat rows))
unfolding sample_at
rows_framed l b rows h =
    record { above = λ i j. refl; left = left; right = right; bits = has_bits b l (flat rows) (flat_bits l b rows h) }
  where
    left : (i : ℤ) (j : ℕ) → sample_at l (flat rows) i (negsuc j) ≡ 0
    left (pos i) j = refl
    left (negsuc i) j = refl

    right : (i : ℤ) (j : ℕ) → l ≤ j → sample_at l (flat rows) i (pos j) ≡ 0
    right (pos i) j q = rw (le-ltb j l q) refl
    right (negsuc i) j q = refl

row_long : (l b : ℕ) (rows : List (List ℕ)) → T (good_rows l b rows) → (i : ℕ) → i < length rows → length (get_or rows i []) ≡ l
row_long l b [] h i p = absurd (not-suc-le-zero p)
row_long l b (row ∷ rows) h zero p = (good l b row rows h).long
row_long l b (row ∷ rows) h (suc i) p = row_long l b rows (good l b row rows h).rest i (omega arith)

-- row i of the scan is the row given, mended
pub row_at :
    (l b : ℕ) (rows : List (List ℕ)) → T (good_rows l b rows) → (i c : ℕ) → i < length rows → c < l
    → get_or (mended (get_or rows i [])) c 0 ≡ scanned l rows (pos i) (pos c)
unfolding sample_at
row_at l b rows h i c p q =
    let n = row_long l b rows h i p in
    rw (lt-ltb c l q) (get_or-mended (get_or rows i []) c (omega arith) ∙ mended_cong _ _ c (λ k m. flat_at l b rows h i k p (omega arith)))

-- darkness below the last row
pub below : (l b : ℕ) (rows : List (List ℕ)) → T (good_rows l b rows) → (i c : ℕ) → length rows ≤ i → sample_at l (flat rows) (pos i) (pos c) ≡ 0
unfolding sample_at
below l b rows h i c p = go (ltb c l)
  where
    go : (q : Bool) → cond q (mended_at (λ k. get_or (flat rows) (i * l + k) 0) c) 0 ≡ 0
    go true =
        let n = flat-length l b rows h in
        let m = mul-le-mul_right l p in
        mended_zero (λ k. get_or (flat rows) (i * l + k) 0) c (get_or-eq_default (flat rows) 0 {n = i * l + c} (omega arith))
    go false = refl

-- ---- rows after rows

pub flat_append : (rows more : List (List ℕ)) → flat (rows ++ more) ≡ flat rows ++ flat more
unfolding flat
flat_append [] more = refl
flat_append (row ∷ rows) more = ap (λ r. row ++ r) (flat_append rows more) ∙ sym (append_assoc row (flat rows) (flat more))

pub good_append : (l b : ℕ) (rows more : List (List ℕ)) → T (good_rows l b rows) → T (good_rows l b more) → T (good_rows l b (rows ++ more))
unfolding good_rows
good_append l b [] more h g = g
good_append l b (row ∷ rows) more h g =
    let a = and_yes (eqb (length row) l) _ h in
    let c = and_yes (all (length row) (sample_good (2 ^ b - 1) row)) (good_rows l b rows) a.1 in
    yes_and (eqb (length row) l) _ a.0 (yes_and (all (length row) (sample_good (2 ^ b - 1) row)) _ c.0 (good_append l b rows more c.1 g))

pub good_one : (l b : ℕ) (row : List ℕ) → eqb (length row) l ≡ true → all (length row) (sample_good (2 ^ b - 1) row) ≡ true
    → T (good_rows l b (row ∷ []))
unfolding good_rows
good_one l b row e f = rw (e, f) tt

pub good_first : (l b : ℕ) (row : List ℕ) (rows : List (List ℕ)) → Good l b row rows → T (good_rows l b (row ∷ []))
good_first l b row rows q = good_one l b row (eq-eqb (length row) l q.long) (true_of (all (length row) (sample_good (2 ^ b - 1) row)) q.small)

-- a scan with more rows is the same in the rows before them, above the scan, and beside it
module _ (l b : ℕ) (rows more : List (List ℕ)) (h : T (good_rows l b rows)) where
  pub more_agrees : (e : ℕ) (j : ℤ) → e < length rows → scanned l rows (pos e) j ≡ scanned l (rows ++ more) (pos e) j
  unfolding sample_at
  more_agrees e (negsuc j) p = refl
  more_agrees e (pos j) p = go (ltb j l) (ltb→lt j l)
    where
      go : (y : Bool) → (T y → j < l)
          → cond y (mended_at (λ k. get_or (flat rows) (e * l + k) 0) j) 0 ≡ cond y (mended_at (λ k. get_or (flat (rows ++ more)) (e * l + k) 0) j) 0
      go true q =
          let n = flat-length l b rows h in
          let m = mul-le-mul_right l p in
          let i = q tt in
          mended_cong _ _ j (λ k r. rw (flat_append rows more) (sym (get_or-append (flat rows) (flat more) 0 (e * l + k) (omega arith))))
      go false q = refl

  pub more_above : (i : ℕ) (j : ℤ) → scanned l rows (negsuc i) j ≡ scanned l (rows ++ more) (negsuc i) j
  unfolding sample_at
  more_above i j = refl

-- the last of the rows, mended
pub last_row : (l b : ℕ) (rows : List (List ℕ)) (row : List ℕ) → T (good_rows l b rows) → length row ≡ l → (c : ℕ) → c < l
    → get_or (mended row) c 0 ≡ scanned l (rows ++ (row ∷ [])) (pos (length rows)) (pos c)
unfolding sample_at flat
last_row l b rows row h long c q =
    rw (lt-ltb c l q)
    (get_or-mended row c (omega arith)
    ∙ mended_cong _ _ c (λ k m.
    let e : length rows * l + k ≡ length (flat rows) + k = ap (λ n. n + k) (sym (flat-length l b rows h)) in
    rw (flat_append rows (row ∷ []), e, get_or-append-add (flat rows) (row ++ []) k 0) (sym (get_or-append row [] 0 k (omega arith)))))
