-- The machine words of an arrival's numbers.
-- Assumes nothing.
use Rattle.std.specs.Prelude.{ℕ, ◌^◌, ◌≤◌, ◌<◌, T}
use Rattle.arith.specs.Twos.{fits_signed}
use Rattle.layout.specs.Measure.{delay_of}
use Rattle.arrival.specs.Arrivals.{Arrival, less_sum, new_sum, window_at, scaled_at, value_at, pixel_at}

-- both steps of rectangle k's sum for column c, its window sum and the scaled one have 32 bits, the value of the column 64, and its
-- pixel, where it is due, those of the pixel word
pub record WordsFit (v : Arrival) (k c : ℕ) : Type 0 where
  pub less : less_sum v k c < 2 ^ 32
  pub next : new_sum v k c < 2 ^ 32
  pub window : window_at v k c < 2 ^ 32
  pub scaled : scaled_at v k c < 2 ^ 32
  pub value : T (fits_signed 64 (value_at v c))
  pub pixel : delay_of v.table ≤ v.number → T (fits_signed v.table.w (pixel_at v c))
