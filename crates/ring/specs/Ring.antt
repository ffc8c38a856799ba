-- Rows kept in a ring of 32.
-- Assumes nothing.
use Rattle.std.specs.Prelude.{ℕ, ◌+◌, ◌*◌, ◌%◌, ◌≤◌, ◌<◌, ◌≡◌, cond, List, eqb, ℤ, pos, negsuc, get_or}

-- row e at column c, at arrival a of a row of l samples: zeros below 0, the arriving row itself, or the one kept from place
-- (e mod 32)·L on
unfoldable pub row_at : (l a : ℕ) → (row samples : List ℕ) → (e : ℤ) → (c : ℕ) → ℕ
row_at l a row samples (negsuc e) c = 0
row_at l a row samples (pos e) c = cond (eqb e a) (get_or row c 0) (get_or samples (e % 32 * l + c) 0)

-- the sample store holds each of the last 32 of a arrivals of the scan x from its place on
unfoldable pub Kept : (l : ℕ) → (x : ℤ → ℤ → ℕ) → (a : ℕ) → List ℕ → Type 0
Kept l x a samples = (e c : ℕ) → e < a → a ≤ e + 32 → c < l → get_or samples (e % 32 * l + c) 0 ≡ x (pos e) (pos c)

-- what a call asks of the lengths: the row has l samples, and the store room for 32 rows
pub record RingFits (l row samples : ℕ) : Type 0 where
  pub row_long : row ≡ l
  pub samples_long : 32 * l ≤ samples
