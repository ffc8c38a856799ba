-- The samples of a PGM.
-- Assumes nothing.
use Rattle.std.specs.Prelude.{ℕ, ◌+◌, ◌*◌, ◌/◌, min, cond, List, ◌++◌, leb, length, get_or, drop}
use Rattle.arith.specs.Tab.{tab}

-- how many bytes a sample takes: one up to a maxval of 255, else two
unfoldable pub sample_bytes : (maxval : ℕ) → ℕ
sample_bytes maxval = cond (leb maxval 255) 1 2

-- the samples of the bytes of a row, by their count from 0; the high byte first where a sample takes two
unfoldable pub sample_in : (maxval : ℕ) → List ℕ → ℕ → ℕ
sample_in maxval bs = cond (leb maxval 255) (λ k. get_or bs k 0) (λ k. get_or bs (2 * k) 0 * 256 + get_or bs (2 * k + 1) 0)

-- how many samples are decoded: as many as there are bytes for and places for
unfoldable pub decoded_count : (maxval bytes places : ℕ) → ℕ
decoded_count maxval bytes places = min (bytes / sample_bytes maxval) places

-- the output with the samples at its start
unfoldable pub decoded : (maxval : ℕ) → (bs out : List ℕ) → List ℕ
decoded maxval bs out =
    tab (decoded_count maxval (length bs) (length out)) (sample_in maxval bs) ++ drop (decoded_count maxval (length bs) (length out)) out
