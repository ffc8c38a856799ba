-- The mapping from a signed pixel of w bits to a sample of a 16-bit picture, and from a level to a byte.
-- Assumes nothing.
use Rattle.std.specs.Prelude.{ℕ, ◌*◌, ◌-◌, ◌/◌, ◌%◌, ◌^◌, min, Bool, cond, ◌&&◌, List, ◌++◌, leb, eqb, length, get_or, drop, ℤ, pos, ◌+ℤ◌}
use Rattle.arith.specs.Part.{pos_part}
use Rattle.arith.specs.Tab.{tab, grid}

-- pixel + 2^(w - 1), divided by 2^(w - 16) and rounded down where w is above 16; a pixel that does not fit w bits goes to the
-- nearer end of 0 to 65,535
unfoldable pub shade : (w : ℕ) → ℤ → ℕ
shade w z = min 65535 (pos_part (z +ℤ pos (2 ^ (w - 1))) / 2 ^ (w - 16))

-- byte j of a sample of two, the high one first
unfoldable pub byte_of : (sample j : ℕ) → ℕ
byte_of sample j = cond (eqb j 0) (sample / 256) (sample % 256)

-- w is a pixel word's length
unfoldable pub word_good : ℕ → Bool
word_good w = leb 8 w && leb w 32

-- how many pixels are put: as many as there are places for; none where w is no pixel word's length
unfoldable pub encoded_count : (w pixels bytes : ℕ) → ℕ
encoded_count w pixels bytes = cond (word_good w) (min pixels (bytes / 2)) 0

-- the output with the two bytes of each pixel's sample at its start
unfoldable pub encoded : (w : ℕ) → List ℤ → List ℕ → List ℕ
encoded w zs out =
    grid (encoded_count w (length zs) (length out)) 2 (λ k. byte_of (shade w (get_or zs k (pos 0))))
    ++ drop (encoded_count w (length zs) (length out) * 2) out

-- a level is its own byte; what does not fit a byte goes to the nearer end of 0 to 255
unfoldable pub level_byte : ℤ → ℕ
level_byte z = min 255 (pos_part z)

-- the output with the bytes of the levels at its start, as many as there are places for
unfoldable pub encoded_levels : List ℤ → List ℕ → List ℕ
encoded_levels zs out =
    tab (min (length zs) (length out)) (λ k. level_byte (get_or zs k (pos 0))) ++ drop (min (length zs) (length out)) out
