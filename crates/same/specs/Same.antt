-- Whether two tables do the same.
-- Assumes nothing.
use Rattle.std.specs.Prelude.{ℕ, ◌-◌, ◌/◌, ◌%◌, ◌^◌, Bool, cond, ◌&&◌, List, [], ◌∷◌, ◌++◌, leb, ltb, eqb, length, drop, ℤ, Option, None, Some, Result}
use Rattle.arith.specs.Equal.{eq_z}
use Rattle.arith.specs.First.{first_not}
use Rattle.arith.specs.Tab.{grid}
use Rattle.layout.specs.declared.Table.{Table}
use Rattle.layout.specs.Contents.{contents, rect}
use Rattle.layout.specs.Answers.{Said, refused, accepted, result_said, Question, asks, first_no, Wrote, wrote}
use Rattle.grid.specs.Grid.{offset, grid_at}
use Rattle.limits.specs.Limits.{no_drops, acceptable}
use Rattle.layout.specs.declared.asking.Refusal.{Refusal}
use Rattle.same.specs.declared.Offset.{Offset}

-- the values of an offset: none, or its row and its column
abbrev pub offset_values : Option Offset → List ℤ
offset_values None = []
offset_values (Some o) = o.row ∷ o.col ∷ []

-- an answer in the rules' numbers: same, with no value; or differs, with the row and the column of the offset
abbrev pub sameness_said : Result (Option Offset) Refusal → Said
sameness_said v = result_said offset_values v

-- ---- its questions

-- question 24: b, t and w are equal
unfoldable pub heads_alike : (t u : Table) → Bool
heads_alike t u = eqb t.b u.b && (eqb t.t u.t && eqb t.w u.w)

-- question 25: neither table has drops
unfoldable pub neither_drops : (t u : Table) → Bool
neither_drops t u = no_drops (contents t) && no_drops (contents u)

-- 11 of the first table, 11 of the second, 24, 25, and 13 on n lent places
unfoldable pub same_asks : (t u : Table) → (n : ℕ) → List Question
same_asks t u n =
    asks 11 (acceptable t) ∷ asks 11 (acceptable u) ∷ asks 24 (heads_alike t u) ∷ asks 25 (neither_drops t u) ∷ asks 13 (leb 961 n) ∷ []

-- ---- its answer

-- a table's weight at row offset a and column offset b: the entry of its grid
abbrev pub weight_at : Table → (a b : ℕ) → ℤ
weight_at t a b = grid_at t.count (rect t) a b

-- the weights are equal at offset k of 961, top row first and left to right
unfoldable pub alike_at : (t u : Table) → (k : ℕ) → Bool
alike_at t u k = eq_z (weight_at t (k / 31) (k % 31)) (weight_at u (k / 31) (k % 31))

-- the first offset where they are not, or 961
unfoldable pub first_unlike : (t u : Table) → ℕ
first_unlike t u = first_not 961 (alike_at t u)

-- the scan of 31 by 31 samples that is `top` at row a, column b and 0 elsewhere
unfoldable pub spot : (top a b : ℕ) → List ℕ
spot top a b = grid 31 31 (λ i j. cond (eqb i a && eqb j b) top 0)

-- what is left where the weights differ at offset k: that offset is said, and the first 961 places hold the scan that is 2^b - 1 there
abbrev pub difference_at : Table → (k : ℕ) → (scan : List ℕ) → Wrote
difference_at t k scan = wrote (accepted (offset (k / 31) ∷ offset (k % 31) ∷ [])) (spot (2 ^ t.b - 1) (k / 31) (k % 31) ++ drop 961 scan)

-- what is left where they differ first at offset k of 961; where at none, same is said and nothing is written
unfoldable pub compared_at : Table → (k : ℕ) → (scan : List ℕ) → Wrote
compared_at t k scan = cond (ltb k 961) (difference_at t k scan) (wrote (accepted []) scan)

-- what the call leaves
unfoldable pub same_of : (t u : Table) → (scan : List ℕ) → Wrote
same_of t u scan =
    first_no (same_asks t u (length scan)) (λ number place. wrote (refused number place) scan) (compared_at t (first_unlike t u) scan)
