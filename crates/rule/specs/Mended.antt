-- M-101: rows with dead elements, mended.
-- Assumes nothing.
use Rattle.std.specs.Prelude.{ℕ, zero, suc, ◌≤◌, ◌<◌, ◌≡◌, cond, List, eqb, length, get_or}
use Rattle.arith.specs.Tab.{tab}

-- what the sensor sends for an element that failed
abbrev pub dead : ℕ
dead = 65535

-- sample k of a row f as it counts: itself where it is live, else the nearest live one to its left, or 0 if there is none
unfoldable pub mended_at : (f : ℕ → ℕ) → (k : ℕ) → ℕ
mended_at f zero = cond (eqb (f zero) dead) 0 (f zero)
mended_at f (suc k) = cond (eqb (f (suc k)) dead) (mended_at f k) (f (suc k))

-- a row, mended
unfoldable pub mended : List ℕ → List ℕ
mended xs = tab (length xs) (mended_at (λ k. get_or xs k 0))

-- which sample that is: itself, or the one at j with none live between, or none
pub record Nearest (f : ℕ → ℕ) (k : ℕ) : Type 0 where
  pub live : ¬ (f k ≡ dead) → mended_at f k ≡ f k
  pub left : (j : ℕ) → j ≤ k → ¬ (f j ≡ dead) → ((i : ℕ) → j < i → i ≤ k → f i ≡ dead) → mended_at f k ≡ f j
  pub none : ((i : ℕ) → i ≤ k → f i ≡ dead) → mended_at f k ≡ 0
