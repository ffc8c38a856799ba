use Rattle.std.proofs.Common.{◌≡◌, ℕ, ◌*◌, ◌≤◌, ℤ}
use Rattle.arith.specs.Part.{pos_part, neg_part}
use Rattle.arith.specs.Sum.{sum}
use Rattle.layout.specs.declared.Table.{Table}
use Rattle.layout.specs.Contents.{rect}
use Rattle.layout.specs.Measure.{loss_figure}
use Rattle.figures.specs.Sizes.{share_most}
use Rattle.figures.proofs.losses.loss_sums.Given as goal

abbrev pub weighed : (part : ℤ → ℕ) → Table → ℕ → ℕ
weighed part t k = part (rect t k).weight * loss_figure t (rect t k)

-- the shares of the rectangles passed
abbrev pub invariant-loop-r : goal.invariant-loop-r
invariant-loop-r l = record {
  low : l.low ≡ sum l.r-index (weighed neg_part l.fn.t);
  high : l.high ≡ sum l.r-index (weighed pos_part l.fn.t);
  low_small : l.low ≤ l.r-index * share_most;
  high_small : l.high ≤ l.r-index * share_most;
}
