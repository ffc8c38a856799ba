-- A column's counts when a sample leaves and another enters.
-- Assumes nothing.
use Prim.Native.Nat.{ℕ, ◌+◌, ◌-◌, ◌*◌, ◌≤◌, ◌<◌}
use native.Mathlib.Decide.{ℕ_discrete}
use native.Mathlib.Omega.{arith}
use mathlib.Core.Path.{◌≡◌, refl, sym, ap, ap₂, ◌∙◌}
use mathlib.Core.Bool.{Bool, true, false, cond, ◌&&◌}
use mathlib.Core.List.{List}
use lib.Dec.{T, leb, ltb, eqb, ltb→lt, leb→le, le→leb}
use lib.ListN.{length, get_or, set, length-set}
use lib.Seq.{ext_get_or, get_or-set_same, get_or-set_other}
use mir.Facts.{and_yes}
use borrow.Author.Tests.{eq-eqb, ne_eqb}
use borrow.Rule.Slice.PartMut.{put_mid}
use Rattle.arith.specs.All.{all}
use Rattle.arith.specs.Tab.{tab}
use Rattle.arith.proofs.Alls.{all_cong, all_of, all_at}
use Rattle.arith.proofs.Bools.{bool_eq}
use Rattle.arith.proofs.Parts.{part, part_at, part_length}
use Rattle.arith.proofs.Tabs.{length-tab, get_or-tab, tab_cong}
use Rattle.levels.specs.Levels.{count_of, count_at, one, moved_count, column_good}
use Rattle.levels.specs.Fits.{ChangeFits}

-- ---- one place of a list changed

pub taken_off : (xs : List ℕ) (x less v : ℕ) → x < length xs → get_or (set xs x (get_or xs x 0 - less)) v 0 ≡ get_or xs v 0 - one less x v
taken_off xs x less v h = elim (ℕ_discrete v x) [
  | yes e ↦ rw (e, eq-eqb x x refl) (get_or-set_same xs x (get_or xs x 0 - less) 0 h)
  | no n ↦ rw (ne_eqb x v (λ e. n (sym e))) (get_or-set_other xs x v (get_or xs x 0 - less) 0 n ∙ plain (get_or xs v 0))
]
  where
    plain : (k : ℕ) → k ≡ k - 0
    plain k = omega arith

pub put_on : (xs : List ℕ) (y more v : ℕ) → y < length xs → get_or (set xs y (get_or xs y 0 + more)) v 0 ≡ get_or xs v 0 + one more y v
put_on xs y more v h = elim (ℕ_discrete v y) [
  | yes e ↦ rw (e, eq-eqb y y refl) (get_or-set_same xs y (get_or xs y 0 + more) 0 h)
  | no n ↦ rw (ne_eqb y v (λ e. n (sym e))) (get_or-set_other xs y v (get_or xs y 0 + more) 0 n ∙ plain (get_or xs v 0))
]
  where
    plain : (k : ℕ) → k ≡ k + 0
    plain k = omega arith

-- both steps of a column
module _ (col : List ℕ) (x less y more : ℕ) (hx : x < length col) (hy : y < length col) where
  abbrev half : List ℕ
  half = set col x (get_or col x 0 - less)

  half_long : length half ≡ length col
  half_long = length-set col x (get_or col x 0 - less)

  pub changed : set half y (get_or half y 0 + more) ≡ tab (length col) (moved_count (count_of col) x less y more)
  unfolding moved_count
  changed =
      ext_get_or 0 (set half y (get_or half y 0 + more)) (tab (length col) (moved_count (count_of col) x less y more))
      (whole ∙ sym (length-tab (length col) _))
      (λ v h. put_on half y more v (let n = half_long in omega arith) ∙ ap (λ k. k + one more y v) (taken_off col x less v hx)
      ∙ sym (get_or-tab (length col) (moved_count (count_of col) x less y more) v 0 (let n = whole in omega arith)))
    where
      whole : length (set half y (get_or half y 0 + more)) ≡ length col
      whole = length-set half y (get_or half y 0 + more) ∙ half_long

-- two columns that have the same count of a level
pub moved_same : (f g : ℕ → ℕ) (x less y more v : ℕ) → f v ≡ g v → moved_count f x less y more v ≡ moved_count g x less y more v
unfolding moved_count
moved_same f g x less y more v e = ap (λ k. k - one less x v + one more y v) e

-- ---- question 19 of a column looks at its own levels only

pub column_cong : (n most : ℕ) {f g : ℕ → ℕ} (x less y more : ℕ) → ((v : ℕ) → v < n → f v ≡ g v)
    → column_good n most f x less y more ≡ column_good n most g x less y more
unfolding column_good moved_count
column_cong n most {f} {g} x less y more h =
    go (ltb x n) (ltb→lt x n) (all_cong n (λ v l. ap (λ k. leb k most) (moved_same f g x less y more v (h v l))))
  where
    go : (b : Bool) → (T b → x < n)
        → all n (λ v. leb (f v - one less x v + one more y v) most) ≡ all n (λ v. leb (g v - one less x v + one more y v) most)
        → (b && (ltb y n && (leb less (f x) && all n (λ v. leb (f v - one less x v + one more y v) most))))
        ≡ (b && (ltb y n && (leb less (g x) && all n (λ v. leb (g v - one less x v + one more y v) most))))
    go true l e = rw (h x (l tt), e) refl
    go false l e = refl

-- where no count is above the most, only the level of what enters can pass it
pub entering_decides : (n most : ℕ) (f : ℕ → ℕ) (x less y more : ℕ) → ((v : ℕ) → v < n → f v ≤ most) → y < n
    → leb (moved_count f x less y more y) most ≡ all n (λ v. leb (moved_count f x less y more v) most)
unfolding moved_count
entering_decides n most f x less y more h l =
    bool_eq _ _ (λ t. all_of n _ (at (leb→le (moved_count f x less y more y) most t)))
    (λ t. all_at n (λ v. leb (moved_count f x less y more v) most) t y l)
  where
    at : moved_count f x less y more y ≤ most → (v : ℕ) → v < n → T (leb (f v - one less x v + one more y v) most)
    at k v p = elim (ℕ_discrete v y) [
      | yes e ↦ rw e (le→leb _ most k)
      | no q ↦ rw (ne_eqb y v (λ e. q (sym e))) (le→leb _ most (let m = h v p in omega arith))
    ]

-- ---- a column in a store of columns

module _ (counts : List ℕ) (c n : ℕ) (h : c * 256 + n ≤ length counts) where
  -- the part of n levels that is lent
  pub part_good : (most x less y more : ℕ)
      → column_good (length (part (c * 256) n counts)) most (count_of (part (c * 256) n counts)) x less y more
      ≡ column_good n most (count_at counts c) x less y more
  part_good most x less y more =
      ap (λ k. column_good k most (count_of (part (c * 256) n counts)) x less y more) (part_length (c * 256) n counts h)
      ∙ column_cong n most x less y more (part_at (c * 256) n counts)

  -- lent to be changed, and come back
  pub part_changed : {ys : List ℕ} (x less y more : ℕ)
      → ys ≡ tab (length (part (c * 256) n counts)) (moved_count (count_of (part (c * 256) n counts)) x less y more)
      → put_mid (c * 256) (c * 256 + n - c * 256) counts ys ≡ put_mid (c * 256) n counts (tab n (moved_count (count_at counts c) x less y more))
  part_changed x less y more e =
      let k : c * 256 + n - c * 256 ≡ n = omega arith in
      ap₂ (λ i ys. put_mid (c * 256) i counts ys) k
      (e ∙ ap (λ i. tab i (moved_count (count_of (part (c * 256) n counts)) x less y more)) (part_length (c * 256) n counts h)
      ∙ tab_cong n (λ v l. moved_same (count_of (part (c * 256) n counts)) (count_at counts c) x less y more v (part_at (c * 256) n counts v l)))

  pub part_fits : {x less y more : ℕ} → ChangeFits n (count_at counts c) x less y more
      → ChangeFits (length (part (c * 256) n counts)) (count_of (part (c * 256) n counts)) x less y more
  part_fits {x} {less} {y} {more} f =
      let e = part_length (c * 256) n counts h in
      record {
        off_level = rw e f.off_level;
        on_level = rw e f.on_level;
        counted = rw (part_at (c * 256) n counts x f.off_level) f.counted;
        room = rw (part_at (c * 256) n counts y f.on_level) f.room;
      }

-- ---- what a column tells that is good

pub record GoodColumn (n most : ℕ) (count : ℕ → ℕ) (x less y more : ℕ) : Type 0 where
  pub off_level : x < n
  pub on_level : y < n
  pub counted : less ≤ count x
  pub within : (v : ℕ) → v < n → moved_count count x less y more v ≤ most

pub good_column : (n most : ℕ) (count : ℕ → ℕ) (x less y more : ℕ) → T (column_good n most count x less y more) → GoodColumn n most count x less y more
unfolding column_good
good_column n most count x less y more t =
    let a = and_yes (ltb x n) _ t in
    let b = and_yes (ltb y n) _ a.1 in
    let c = and_yes (leb less (count x)) _ b.1 in
    record {
      off_level = ltb→lt x n a.0;
      on_level = ltb→lt y n b.0;
      counted = leb→le less (count x) c.0;
      within = λ v h. leb→le _ most (all_at n (λ v. leb (moved_count count x less y more v) most) c.1 v h);
    }

-- it has room for what enters
pub good_fits : {n most : ℕ} {count : ℕ → ℕ} {x less y more : ℕ} → GoodColumn n most count x less y more → n ≤ 256 → most ≤ 255 → less ≤ 1 → more ≤ 1
    → ChangeFits 256 count x less y more
unfolding moved_count
good_fits {n} {most} {count} {x} {less} {y} {more} g few small p q =
    let a = g.off_level in
    let b = g.on_level in
    let w = g.within y b in
    let l = one_most less x y in
    record { off_level = omega arith; on_level = omega arith; counted = g.counted; room = omega arith }
  where
    one_most : (times x v : ℕ) → one times x v ≤ times
    one_most times x v = go (eqb x v)
      where
        go : (b : Bool) → cond b times 0 ≤ times
        go true = omega arith
        go false = omega arith

-- ---- and back again

module _ {n most : ℕ} {count : ℕ → ℕ} {x less y more : ℕ} (g : GoodColumn n most count x less y more) where
  -- what entered leaves, and what left enters
  pub moved_back : (v : ℕ) → moved_count (moved_count count x less y more) y more x less v ≡ count v
  unfolding moved_count
  moved_back v = let l = taken v in omega arith
    where
      taken : (v : ℕ) → one less x v ≤ count v
      taken v = elim (ℕ_discrete v x) [
        | yes e ↦ rw (e, eq-eqb x x refl) g.counted
        | no q ↦ rw (ne_eqb x v (λ e. q (sym e))) (omega arith)
      ]

  pub back_fits : n ≤ 256 → most ≤ 255 → less ≤ 1 → ChangeFits 256 (moved_count count x less y more) y more x less
  unfolding moved_count
  back_fits few small p =
      let a = g.off_level in
      let b = g.on_level in
      let w = g.within x a in
      record { off_level = omega arith; on_level = omega arith; counted = rw (eq-eqb y y refl) (omega arith); room = omega arith }
