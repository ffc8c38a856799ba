-- Question 19 of a ranked window, in the rules' words.
-- Assumes nothing.
use Rattle.std.specs.Prelude.{ℕ, ◌+◌, ◌-◌, ◌^◌, Bool, true, cond, ◌&&◌, leb, ltb, eqb, ℤ}
use Rattle.std.proofs.Math.Option.{Option, none, some}
use Rattle.arith.specs.All.{all}
use Rattle.layout.specs.Measure.{rows_of}
use Rattle.ring.specs.Ring.{row_at}
use Rattle.levels.specs.Levels.{count_at}
use Rattle.histograms.specs.Arrivals.{Counting, edge_row, is_given}

-- the sample that leaves or enters in column c: none where its row is below 0 or a closing row, which are passed over
unfoldable pub passing : Counting → (edge : ℤ) → (c : ℕ) → Option ℕ
passing v edge c =
    cond (is_given v.what.given (edge_row v.what edge)) (some (row_at v.what.width v.what.number v.row v.samples (edge_row v.what edge) c)) none

-- it is a level, below 2^b
unfoldable pub is_level : (b : ℕ) → Option ℕ → Bool
is_level b none = true
is_level b (some x) = ltb x (2 ^ b)

-- its count is above zero
unfoldable pub is_counted : (count : ℕ → ℕ) → Option ℕ → Bool
is_counted count none = true
is_counted count (some x) = ltb 0 (count x)

-- 1 at its own level
unfoldable pub at_level : Option ℕ → (u : ℕ) → ℕ
at_level none u = 0
at_level (some x) u = cond (eqb x u) 1 0

-- the leaving and the entering sample are levels, the leaving one's count is above zero, and no level's count passes M afterwards
unfoldable pub asked19 : Counting → (c : ℕ) → Bool
asked19 v c =
    let off = passing v v.what.rect.trailrow c in
    let on = passing v v.what.rect.leadrow c in
    is_level v.what.b off && (is_level v.what.b on && (is_counted (count_at v.counts c) off
    && all (2 ^ v.what.b) (λ u. leb (count_at v.counts c u - at_level off u + at_level on u) (rows_of v.what.rect))))
