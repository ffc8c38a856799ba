-- What the drops of a table save and cost: the bits of its sums, and how far a pixel may be from the full one.
-- Assumes nothing.
use Rattle.std.specs.Prelude.{ℕ, ◌+◌, ◌-◌, ◌*◌, ◌/◌, ◌^◌, cond, ◌&&◌, Option, Some, None}
use Rattle.arith.specs.Sum.{sum}
use Rattle.arith.specs.Largest.{largest}
use Rattle.arith.specs.Part.{pos_part, neg_part}
use Rattle.layout.specs.declared.Table.{Table}
use Rattle.layout.specs.Contents.{rect}
use Rattle.layout.specs.Measure.{column_word, window_word}
use Rattle.limits.specs.Limits.{acceptable}
use Rattle.rule.specs.Questions.{width_good}
use Rattle.rule.specs.Accuracy.{loss_under}
use Rattle.figures.specs.declared.Figures.{Figures}

-- the widest column word of the rectangles, formula (6)
unfoldable pub widest_column : Table → ℕ
widest_column t = largest t.count (λ k. column_word t (rect t k))

-- the widest window word, formula (7)
unfoldable pub widest_window : Table → ℕ
widest_window t = largest t.count (λ k. window_word t (rect t k))

-- the bits of all sums at width l: of each rectangle, l column sums and one window sum
unfoldable pub sums_bits : Table → (l : ℕ) → ℕ
sums_bits t l = sum t.count (λ k. l * column_word t (rect t k) + window_word t (rect t k))

-- ⌈n / 2^t⌉
unfoldable pub ceil_div : (n t : ℕ) → ℕ
ceil_div n t = (n + (2 ^ t - 1)) / 2 ^ t

-- the full pixel is at most so far above the cut one: the loss figures under positive weights, each times its weight, divided by 2^t and
-- rounded up
unfoldable pub pixels_above : Table → ℕ
pixels_above t = ceil_div (loss_under pos_part t) t.t

-- and at most so far below it: the same under negative weights, each times its weight's size
unfoldable pub pixels_below : Table → ℕ
pixels_below t = ceil_div (loss_under neg_part t) t.t

-- the figures of a table at width l
abbrev pub measured : Table → (l : ℕ) → Figures
measured t l =
    record {
      column = widest_column t;
      window = widest_window t;
      sums = sums_bits t l;
      below = pixels_below t;
      above = pixels_above t;
    }

-- the figures where questions 11 and 12 are answered yes; nothing else has any
unfoldable pub figures_of : Table → (l : ℕ) → Option Figures
figures_of t l = cond (acceptable t && width_good l) (Some (measured t l)) None
