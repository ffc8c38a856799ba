-- Text in ASCII: numbers in decimal, and a text put into a buffer.
-- Assumes nothing.
use Rattle.std.specs.Prelude.{ℕ, zero, suc, ◌+◌, ◌/◌, ◌%◌, ◌≤◌, ◌≡◌, cond, List, [], ◌∷◌, ◌++◌, ltb, leb, length, take, drop, ℤ, pos, negsuc}

-- the last `places` decimal digits of n, with no zeros in front
unfoldable pub spell : (places n : ℕ) → List ℕ
spell zero n = []
spell (suc places) n = cond (ltb n 10) ((48 + n) ∷ []) (spell places (n / 10) ++ ((48 + n % 10) ∷ []))

-- a number below 10^20 in decimal
unfoldable pub decimal : ℕ → List ℕ
decimal n = spell 20 n

-- a number, and the byte after it
unfoldable pub cell : (n end : ℕ) → List ℕ
cell n end = decimal n ++ (end ∷ [])

-- an integer, with a sign in front where it is negative, and the byte after it
unfoldable pub signed_cell : (z : ℤ) (end : ℕ) → List ℕ
signed_cell (pos n) end = cell n end
signed_cell (negsuc n) end = 45 ∷ cell (suc n) end

-- a buffer with a text from place `at` on; as it was where there is no room for the text
unfoldable pub put_text : (before : List ℕ) (at : ℕ) (text : List ℕ) → List ℕ
put_text before at text = cond (leb (at + length text) (length before)) (take at before ++ text ++ drop (at + length text) before) before

-- the place past the text, or `at` where there is no room for it
unfoldable pub put_end : (before : List ℕ) (at : ℕ) (text : List ℕ) → ℕ
put_end before at text = cond (leb (at + length text) (length before)) (at + length text) at

-- `after` is `before` with the text from place `at` on, and `next` is the place past it
pub record Put (before : List ℕ) (at : ℕ) (text after : List ℕ) (next : ℕ) : Type 0 where
  pub now : after ≡ take at before ++ text ++ drop (at + length text) before
  pub next_is : next ≡ at + length text
  pub room : next ≤ length before
