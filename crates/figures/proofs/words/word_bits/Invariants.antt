use Rattle.std.proofs.Common.{◌≡◌, ℕ, ◌+◌, ◌*◌, ◌≤◌}
use Rattle.arith.specs.Sum.{sum}
use Rattle.arith.specs.Largest.{largest}
use Rattle.layout.specs.declared.Table.{Table}
use Rattle.layout.specs.Contents.{rect}
use Rattle.layout.specs.Measure.{column_word, window_word}
use Rattle.figures.proofs.words.word_bits.Given as goal

abbrev pub col : Table → ℕ → ℕ
col t k = column_word t (rect t k)

abbrev pub win : Table → ℕ → ℕ
win t k = window_word t (rect t k)

-- 2^43: no width times a number of 32 bits, and another one, is above it
abbrev pub words_most : ℕ
words_most = 8796093022208

-- the words of the rectangles passed
abbrev pub invariant-loop-r : goal.invariant-loop-r
invariant-loop-r l = record {
  column : l.words.column ≡ largest l.r-index (col l.fn.t);
  window : l.words.window ≡ largest l.r-index (win l.fn.t);
  sums : l.words.sums ≡ sum l.r-index (λ j. l.fn.width * col l.fn.t j + win l.fn.t j);
  small : l.words.sums ≤ l.r-index * words_most;
}
