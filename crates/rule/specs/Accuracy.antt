-- Demand 3: how far a cut sum is from the full one, and a cut value from the full value.
-- Assumes nothing.
use Rattle.std.specs.Prelude.{ℕ, ◌+◌, ◌*◌, ◌%◌, ◌^◌, ◌≤◌, ◌<◌, ◌≡◌, ◌↔◌, ℤ, pos, neg_ℤ, ◌-ℤ◌, ◌≤ℤ◌}
use Rattle.arith.specs.Sum.{sum}
use Rattle.arith.specs.Part.{pos_part, neg_part}
use Rattle.layout.specs.declared.Rect.{Rect}
use Rattle.layout.specs.declared.Table.{Table}
use Rattle.layout.specs.Contents.{rect}
use Rattle.layout.specs.Measure.{rows_of, cols_of, loss_figure}
use Rattle.rule.specs.Sums.{Image, covered, full_sum, column_sum, window_sum, scaled_sum}
use Rattle.rule.specs.Pixels.{full_value, cut_value}

-- every bit dropped for a rectangle is zero: of its M·N samples by 2^q1, of its N column sums by 2^q2, of its window sum by 2^q3
pub record NothingDropped (t : Table) (x : Image) (d : Rect) (r c : ℤ) : Type 0 where
  pub samples :
      (i j : ℕ) → i < rows_of d → j < cols_of d → x (covered r d.trailrow i) (covered c d.trailcol j) % 2 ^ t.q1 ≡ 0
  pub columns : (j : ℕ) → j < cols_of d → column_sum t x d r (covered c d.trailcol j) % 2 ^ t.q2 ≡ 0
  pub window : window_sum t x d r c % 2 ^ t.q3 ≡ 0

-- the sum of part(weight) times loss figure over the rectangles
unfoldable pub loss_under : (part : ℤ → ℕ) → Table → ℕ
loss_under part t = sum t.count (λ k. part (rect t k).weight * loss_figure t (rect t k))

-- one rectangle: the full sum and the cut sum scaled back are equal exactly when nothing was dropped; otherwise the full one is
-- larger, by at least 1 and at most the loss figure
pub record RectAccuracy (t : Table) (x : Image) (d : Rect) (r c : ℤ) : Type 0 where
  pub exact : (full_sum x d r c ≡ scaled_sum t x d r c) ↔ NothingDropped t x d r c
  pub at_least : ¬ NothingDropped t x d r c → scaled_sum t x d r c + 1 ≤ full_sum x d r c
  pub at_most : ¬ NothingDropped t x d r c → full_sum x d r c ≤ scaled_sum t x d r c + loss_figure t d

-- all rectangles: full value less cut value is at least minus the loss figures under negative weights, each times its weight's
-- size, and at most the like sum under positive ones
pub record Accuracy (t : Table) (x : Image) (r c : ℤ) : Type 0 where
  pub each : (k : ℕ) → k < t.count → RectAccuracy t x (rect t k) r c
  pub low : neg_ℤ (pos (loss_under neg_part t)) ≤ℤ (full_value t x r c -ℤ cut_value t x r c)
  pub high : (full_value t x r c -ℤ cut_value t x r c) ≤ℤ pos (loss_under pos_part t)
