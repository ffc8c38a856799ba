-- The weighted sums above and below zero are added up apart; their difference is the value, and its floor fits the word.
use Rattle.std.proofs.Common.{pos, ◌≡◌, List, ℕ, ◌*◌, ◌^◌, ◌≤◌}
use Rattle.rule.specs.Sums.{sample_at, scaled_sum}
use Rattle.layout.specs.Contents.{rect}
use Rattle.layout.specs.declared.Table.{Table}
use Rattle.arith.specs.Part.{pos_part, neg_part}
use Rattle.arith.specs.Sum.{sum}
use Rattle.pixel.proofs.value.value.Given as goal

-- the parts of rectangle k's term
abbrev pub sums : Table → (width : ℕ) → List ℕ → (r c k : ℕ) → ℕ
sums t width samples r c k = scaled_sum t (sample_at width samples) (rect t k) (pos r) (pos c)

abbrev pub highs : Table → (width : ℕ) → List ℕ → (r c k : ℕ) → ℕ
highs t width samples r c k = pos_part (rect t k).weight * sums t width samples r c k

abbrev pub lows : Table → (width : ℕ) → List ℕ → (r c k : ℕ) → ℕ
lows t width samples r c k = neg_part (rect t k).weight * sums t width samples r c k

abbrev pub invariant-loop-d : goal.invariant-loop-d
invariant-loop-d l = record {
  above : l.above ≡ sum l.d-index (highs l.t l.scan.width l.scan.samples.now l.r l.c);
  below : l.below ≡ sum l.d-index (lows l.t l.scan.width l.scan.samples.now l.r l.c);
  above_small : l.above ≤ l.d-index * 2 ^ 37;
  below_small : l.below ≤ l.d-index * 2 ^ 37;
}
