-- Which places are covered: by their numbers, by the edges, and by the offsets of source 3 of docs/RULES.md.
-- Assumes nothing.
use Rattle.std.specs.Prelude.{ℕ, ◌<◌, ◌≡◌, ◌↔◌, ℤ, pos, ◌+ℤ◌, ◌-ℤ◌, ◌≤ℤ◌, ◌<ℤ◌}
use Rattle.layout.specs.declared.Rect.{Rect}
use Rattle.layout.specs.Measure.{rows_of, cols_of}
use Rattle.rule.specs.Sums.{covered}

-- place z is one of the n places that `covered` numbers from the trail edge
pub record IsCovered (p trail : ℤ) (n : ℕ) (z : ℤ) : Type 0 where
  pub number : ℕ
  pub counted : number < n
  pub place : covered p trail number ≡ z

-- place z lies above the trail edge and not above the lead edge
pub record WithinEdges (p lead trail z : ℤ) : Type 0 where
  pub above_trail : (p +ℤ trail) <ℤ z
  pub to_lead : z ≤ℤ (p +ℤ lead)

-- m is from γ to δ - 1
pub record WithinOffsets (γ δ m : ℤ) : Type 0 where
  pub least : γ ≤ℤ m
  pub most : m ≤ℤ (δ -ℤ pos 1)

-- the numbered rows and columns of a rectangle at row r, column c are exactly those within its edges
pub record CoveredExactly (d : Rect) (r c : ℤ) : Type 0 where
  pub rows : (z : ℤ) → IsCovered r d.trailrow (rows_of d) z ↔ WithinEdges r d.leadrow d.trailrow z
  pub columns : (z : ℤ) → IsCovered c d.trailcol (cols_of d) z ↔ WithinEdges c d.leadcol d.trailcol z
