-- What a burst leaves in its output.
-- Assumes nothing.
use Rattle.std.specs.Prelude.{ℕ, zero, suc, ◌+◌, ◌-◌, ◌*◌, ◌≡◌, List, [], ◌∷◌, ◌++◌, ℤ, pos, length, take, drop}
use Rattle.arith.specs.Tab.{grid}
use Rattle.layout.specs.Sequences.{Reply}
use Rattle.model.specs.Machines.{Filter, Machine}

-- the first n rows of l samples of a slice
unfoldable pub rows_of_slice : (l n : ℕ) → List ℕ → List (List ℕ)
rows_of_slice l zero xs = []
rows_of_slice l (suc n) xs = rows_of_slice l n xs ++ (take l (drop (n * l) xs) ∷ [])

-- a burst says how many rows were taken and how many came out; its output begins with these rows, packed, by the pixel rule on the rows
-- taken so far, from row (rows before) - D on (row 0 where that is negative); beyond them it is what was lent
pub record Packed (f : Filter) (m : Machine) (rows : List ℕ) (out : List ℤ) (r : Reply) : Type 0 where
  pub taken : ℕ
  pub filtered : ℕ
  pub says : r.said.values ≡ pos taken ∷ pos filtered ∷ []
  pub count : filtered ≡ length m.rows + taken - f.delay - (length m.rows - f.delay)
  pub pixels :
      r.out
      ≡ grid filtered f.width (λ i c. f.pixel (m.rows ++ rows_of_slice f.width taken rows) (length m.rows - f.delay + i) c)
      ++ drop (filtered * f.width) out
