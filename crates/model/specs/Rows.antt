-- The rows of a scan.
-- Assumes nothing.
use Rattle.std.specs.Prelude.{ℕ, ◌-◌, ◌^◌, Bool, true, ◌&&◌, List, [], ◌∷◌, ◌++◌, eqb, length}
use Rattle.arith.specs.All.{all}
use Rattle.rule.specs.Questions.{sample_good}
use Rattle.rule.specs.Sums.{Image, sample_at}

-- rows one after the other
unfoldable pub flat : List (List ℕ) → List ℕ
flat [] = []
flat (row ∷ rows) = row ++ flat rows

-- the scan of these rows, each of them mended; zeros after the last
abbrev pub scanned : (l : ℕ) → (rows : List (List ℕ)) → Image
scanned l rows = sample_at l (flat rows)

-- rows of l samples of b bits each, or dead
unfoldable pub good_rows : (l b : ℕ) → List (List ℕ) → Bool
good_rows l b [] = true
good_rows l b (row ∷ rows) = eqb (length row) l && (all (length row) (sample_good (2 ^ b - 1) row) && good_rows l b rows)
