-- Quoted text as bytes, and a text with places for numbers.
-- Assumes nothing.
use Rattle.std.specs.Prelude.{ℕ, zero, suc, ◌-◌, ◌*◌, ◌≤◌, ◌≡◌, cond, List, [], ◌∷◌, ◌++◌, leb, eqb, length, get_or, take, drop}
use Prim.Native.String.{String, [] as none, ◌∷◌ as ◌then◌}
use Prim.Native.Char.{code}
use Rattle.text.specs.Text.{decimal}

-- the bytes of a quoted text in ASCII
unfoldable pub ascii : String → List ℕ
ascii none = []
ascii (c then s) = code c ∷ ascii s

-- a byte of a text, or the number that a # stands for
unfoldable pub piece : (b n : ℕ) → List ℕ
piece b n = cond (eqb b 35) (decimal n) (b ∷ [])

-- a text in which each # stands for the next of these numbers, in decimal, from number k on; 0 where there are no more
unfoldable pub filled : (text : List ℕ) → (numbers : List ℕ) → (k : ℕ) → List ℕ
filled [] numbers k = []
filled (b ∷ text) numbers k = piece b (get_or numbers k 0) ++ filled text numbers (cond (eqb b 35) (suc k) k)

-- how many bytes are put of such a text: all where the output has 20 for each of its bytes, else none
unfoldable pub fill_count : (out text numbers : List ℕ) → ℕ
fill_count out text numbers = cond (leb (20 * length text) (length out)) (length (filled text numbers 0)) 0

-- the output with the text at its start, where it is put
unfoldable pub fill_out : (out text numbers : List ℕ) → List ℕ
fill_out out text numbers =
    cond (leb (20 * length text) (length out)) (filled text numbers 0 ++ drop (length (filled text numbers 0)) out) out

-- ---- lines

-- the bytes before the first line feed
unfoldable pub line_length : List ℕ → ℕ
line_length [] = 0
line_length (b ∷ text) = cond (eqb b 10) 0 (suc (line_length text))

-- what follows the first line feed
unfoldable pub after_line : List ℕ → List ℕ
after_line text = drop (suc (line_length text)) text

-- line k of a text, counted from 0, without its line feed; empty where there are not so many
unfoldable pub line : (k : ℕ) → List ℕ → List ℕ
line zero text = take (line_length text) text
line (suc k) text = line k (after_line text)

-- quoted lines as one text
unfoldable pub lines : List String → List ℕ
lines [] = []
lines (s ∷ ss) = ascii s ++ (10 ∷ lines ss)

-- bytes `start` to `end` of a text are its line k
pub record IsLine (text : List ℕ) (k start end : ℕ) : Type 0 where
  pub forth : start ≤ end
  pub within : end ≤ length text
  pub is : take (end - start) (drop start text) ≡ line k text
