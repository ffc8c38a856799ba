-- What a ranked scan is started with, and what its stores hold after its arrivals.
-- Assumes nothing.
use Rattle.std.specs.Prelude.{ℕ, suc, ◌*◌, ◌^◌, ◌≤◌, ◌<◌, ◌≡◌, true, List, eqb, pos, length, get_or}
use Rattle.std.proofs.Math.IntN.{sub_ℕ}
use Rattle.rule.specs.Questions.{width_good}
use Rattle.ring.specs.Ring.{Kept}
use Rattle.levels.specs.Levels.{count_at}
use Rattle.histograms.specs.Arrivals.{delay_by}
use Rattle.rank.specs.declared.Window.{Window}
use Rattle.rank.specs.Calls.{rect_of, window_good, stores_good}
use Rattle.rankrun.specs.Rule.{Strip, column_tally}

-- b, the window, R and L
pub record Setting : Type 0 where
  pub b : ℕ
  pub window : Window
  pub rank : ℕ
  pub width : ℕ

-- what starting accepts: b from 1 to 8, a window within the limits, R from 1 to M·N, a width from 1 to 1,024, and stores long enough, whatever
-- they hold
pub record Starts (q : Setting) (samples counts windows : List ℕ) : Type 0 where
  pub window : window_good q.window q.b q.rank ≡ true
  pub width : width_good q.width ≡ true
  pub stores : stores_good q.width (length samples) (length counts) (length windows) ≡ true

-- the stores after a arrivals: the sample store holds the last 32 of them, the column counts at 256·c + v how many of the samples that the
-- window of row a - 1 - D covers in column c are of level v, and the window counts are zero
pub record Stores (q : Setting) (s : Strip) (a : ℕ) (samples counts windows : List ℕ) : Type 0 where
  pub samples_long : 32 * q.width ≤ length samples
  pub counts_long : 256 * q.width ≤ length counts
  pub windows_long : 256 ≤ length windows
  pub kept : Kept q.width s.image a samples
  pub counted :
      (c v : ℕ) → c < q.width → v < 2 ^ q.b
      → count_at counts c v ≡ column_tally s (rect_of q.window) (λ y. eqb y v) (sub_ℕ a (suc (delay_by (rect_of q.window)))) (pos c)
  pub cleared : (v : ℕ) → v < 256 → get_or windows v 0 ≡ 0
