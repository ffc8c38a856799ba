-- Question 19 as the engine asks it is question 19 in the rules' words: a row that is passed over stands as zeros that count nothing.
-- Assumes nothing.
use Prim.Native.Nat.{ℕ, ◌+◌, ◌-◌, ◌^◌, zero-le}
use mathlib.Core.Path.{◌≡◌, refl, ap₂}
use mathlib.Core.Bool.{Bool, true, false, cond, ◌&&◌}
use mathlib.Core.Option.{none, some}
use lib.Dec.{leb, ltb, eqb}
use lib.IntN.{ℤ}
use lib.Pow.{pow_pos}
use borrow.Author.Tests.{lt-ltb, le-leb}
use Rattle.arith.specs.All.{all}
use Rattle.arith.proofs.Alls.{all_cong}
use Rattle.layout.specs.declared.Rect.{Rect}
use Rattle.layout.specs.Measure.{rows_of}
use Rattle.ring.specs.Ring.{row_at}
use Rattle.levels.specs.Levels.{count_at, one, moved_count, column_good}
use Rattle.histograms.specs.Arrivals.{Counting, edge_row, is_given, times_at, edge_at, good_at}
use Rattle.rankrun.specs.Asked.{passing, is_level, is_counted, at_level, asked19}

-- a sample x where g, and else none
level_is : (b x : ℕ) (g : Bool) → ltb (cond g x 0) (2 ^ b) ≡ is_level b (cond g (some x) none)
unfolding is_level
level_is b x true = refl
level_is b x false = lt-ltb 0 (2 ^ b) (pow_pos b)

counted_is : (count : ℕ → ℕ) (x : ℕ) (g : Bool) → leb (cond g 1 0) (count (cond g x 0)) ≡ is_counted count (cond g (some x) none)
unfolding is_counted
counted_is count x true = refl
counted_is count x false = le-leb 0 (count 0) zero-le

at_is : (x u : ℕ) (g : Bool) → one (cond g 1 0) (cond g x 0) u ≡ at_level (cond g (some x) none) u
unfolding at_level
at_is x u true = refl
at_is x u false = nothing (eqb 0 u)
  where
    nothing : (e : Bool) → ◌≡◌ {A = ℕ} (cond e 0 0) 0
    nothing true = refl
    nothing false = refl

asked : (b most : ℕ) (count : ℕ → ℕ) (x y : ℕ) (g h : Bool)
    → column_good (2 ^ b) most count (cond g x 0) (cond g 1 0) (cond h y 0) (cond h 1 0)
    ≡ (is_level b (cond g (some x) none) && (is_level b (cond h (some y) none) && (is_counted count (cond g (some x) none)
    && all (2 ^ b) (λ u. leb (count u - at_level (cond g (some x) none) u + at_level (cond h (some y) none) u) most))))
unfolding column_good moved_count
asked b most count x y g h =
    let m = all_cong (2 ^ b) {f = λ u. leb (count u - one (cond g 1 0) (cond g x 0) u + one (cond h 1 0) (cond h y 0) u) most}
    {g = λ u. leb (count u - at_level (cond g (some x) none) u + at_level (cond h (some y) none) u) most}
    (λ u l. ap₂ (λ i j. leb (count u - i + j) most) (at_is x u g) (at_is y u h)) in
    rw (level_is b x g, level_is b y h, counted_is count x g, m) refl

-- question 19 of a column, for every arrival on any stores
pub question_19 : (v : Counting) (c : ℕ) → good_at v c ≡ asked19 v c
unfolding good_at edge_at times_at asked19 passing
question_19 v c = asked v.what.b (rows_of v.what.rect) (count_at v.counts c) (reached d.trailrow) (reached d.leadrow) (counts d.trailrow) (counts d.leadrow)
  where
    d : Rect
    d = v.what.rect

    reached : (edge : ℤ) → ℕ
    reached edge = row_at v.what.width v.what.number v.row v.samples (edge_row v.what edge) c

    counts : (edge : ℤ) → Bool
    counts edge = is_given v.what.given (edge_row v.what edge)
