-- The rule of a ranked window, taken afresh at every place of a scan.
-- Assumes nothing.
use Rattle.std.specs.Prelude.{ℕ, ◌+◌, ◌^◌, ◌≤◌, ◌<◌, Bool, true, false, cond, ◌&&◌, leb, ltb, eqb, ℤ, pos, negsuc}
use Rattle.arith.specs.First.{first_not}
use Rattle.arith.specs.Largest.{largest}
use Rattle.arith.specs.Sum.{sum}
use Rattle.layout.specs.declared.Rect.{Rect}
use Rattle.layout.specs.Measure.{rows_of, cols_of}
use Rattle.rule.specs.Sums.{Image, covered}

-- what was scanned: how many rows, the samples of a row, and the sample at each place
pub record Strip : Type 0 where
  pub height : ℕ
  pub width : ℕ
  pub image : Image

-- a place inside the scan
unfoldable pub inside : Strip → (i j : ℤ) → Bool
inside s (pos i) (pos j) = ltb i s.height && ltb j s.width
inside s (pos i) (negsuc j) = false
inside s (negsuc i) j = false

-- 1 where a place is inside and its sample passes the test, else 0: the darkness outside is not counted
unfoldable pub count_if : Strip → (test : ℕ → Bool) → (i j : ℤ) → ℕ
count_if s test i j = cond (inside s i j && test (s.image i j)) 1 0

-- how many of the samples that a window at row r covers in column j
unfoldable pub column_tally : Strip → Rect → (test : ℕ → Bool) → (r j : ℤ) → ℕ
column_tally s d test r j = sum (rows_of d) (λ i. count_if s test (covered r d.trailrow i) j)

-- how many of the samples that a window at row r, column c covers
unfoldable pub tally : Strip → Rect → (test : ℕ → Bool) → (r c : ℤ) → ℕ
tally s d test r c = sum (cols_of d) (λ j. column_tally s d test r (covered c d.trailcol j))

-- the covered samples inside the scan, those of them not above level v, and those of level v
abbrev pub inside_count : Strip → Rect → (r c : ℤ) → ℕ
inside_count s d r c = tally s d (λ y. true) r c

abbrev pub not_above : Strip → Rect → (v : ℕ) → (r c : ℤ) → ℕ
not_above s d v r c = tally s d (λ y. leb y v) r c

abbrev pub of_level : Strip → Rect → (r c : ℤ) → (v : ℕ) → ℕ
of_level s d r c v = tally s d (λ y. eqb y v) r c

-- the largest of the covered samples inside the scan
unfoldable pub largest_inside : Strip → Rect → (r c : ℤ) → ℕ
largest_inside s d r c =
    largest (cols_of d) (λ j. largest (rows_of d) (λ i.
    cond (inside s (covered r d.trailrow i) (covered c d.trailcol j)) (s.image (covered r d.trailrow i) (covered c d.trailcol j)) 0))

-- M-102: the smallest level of b bits such that at least R of the covered samples inside the scan are not above it; if fewer than R are
-- inside, the largest of them; -1 if none is
unfoldable pub shade_of : Strip → (b : ℕ) → Rect → (R : ℕ) → (r c : ℤ) → ℤ
shade_of s b d R r c =
    cond (leb R (inside_count s d r c)) (pos (first_not (2 ^ b) (λ v. ltb (not_above s d v r c) R)))
    (cond (eqb (inside_count s d r c) 0) (negsuc 0) (pos (largest_inside s d r c)))

-- formula (2) of source 2 of docs/RULES.md: fewer than R are counted below level k, and at least R up to it
pub record RankAt (count : ℕ → ℕ) (R k : ℕ) : Type 0 where
  pub before : sum k count < R
  pub reached : R ≤ sum (k + 1) count
