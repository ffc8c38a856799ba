-- The samples below the place are decoded.
use Rattle.std.proofs.Common.{◌≡◌, ℕ, ◌+◌, ◌*◌, ◌<◌, get_or}
use Rattle.pgm.proofs.reading.decode_words.Given as goal

abbrev pub invariant-loop-k : goal.invariant-loop-k
invariant-loop-k l = (k : ℕ) → k < l.k → get_or l.out k 0 ≡ get_or l.bytes (2 * k) 0 * 256 + get_or l.bytes (2 * k + 1) 0
