-- M-104: a scan that takes a table's pixel out of its word.
-- Assumes nothing.
use Rattle.std.specs.Prelude.{ℕ, ◌-◌, ◌*◌, ◌^◌, ◌≡◌, true, false, List, pos, length}
use Rattle.arith.specs.All.{all}
use Rattle.arith.specs.Twos.{fits_signed}
use Rattle.layout.specs.declared.Table.{Table}
use Rattle.rule.specs.Sums.{sample_at}
use Rattle.rule.specs.Pixels.{pixel_of}
use Rattle.rule.specs.Questions.{sample_good}

-- 31 by 31 samples that question 18 accepts, and whose centre pixel is outside the word
pub record Outside (t : Table) : Type 0 where
  pub scan : List ℕ
  pub long : length scan ≡ 31 * 31
  pub good : all (length scan) (sample_good (2 ^ t.b - 1) scan) ≡ true
  pub outside : fits_signed t.w (pixel_of t (sample_at 31 scan) (pos 15) (pos 15)) ≡ false
