-- V: the definitions give every marked strip.
-- Assumes nothing.
use Rattle.std.proofs.Common.{T}
use Rattle.arith.specs.Sum.{sum, sum_ℤ}
use Rattle.arith.specs.All.{all}
use Rattle.arith.specs.First.{first_not}
use Rattle.arith.specs.Tab.{tab}
use Rattle.arith.specs.Twos.{signed, fits_signed}
use Rattle.arith.specs.Floor.{floor_div}
use Rattle.layout.specs.Measure.{rows_of, cols_of, loss_figure}
use Rattle.grid.specs.Grid.{area_sum, covers, factor, grid_at, grid_sum}
use Rattle.limits.specs.Limits.{bits_good, drops_good, word_good, head_asks, edges_good, rect_good, no_drops, extreme, extremes_fit, value_good, shaped, within, acceptable}
use Rattle.table.specs.Format.{marked, header_asks, field_asks, fields_of, parse_of, load_of}
use Rattle.rule.specs.Mended.{mended_at}
use Rattle.rule.specs.Questions.{width_good, height_good, place_good}
use Rattle.rule.specs.Sums.{sample_at, covered, full_sum, column_sum, window_sum, cut_sum, scaled_sum}
use Rattle.rule.specs.Pixels.{cut_value, pixel_of}
use Rattle.pixel.specs.Call.{pixel_asks, pixel_answer}
use Rattle.pixel.specs.Strips.{strips, gives, holds}

pub strips_hold : T (holds strips)
unfolding strips gives holds pixel_answer pixel_asks pixel_of cut_value scaled_sum cut_sum window_sum column_sum full_sum covered sample_at mended_at width_good height_good place_good loss_figure load_of parse_of fields_of field_asks header_asks head_asks marked within acceptable bits_good drops_good word_good rect_good edges_good value_good extremes_fit extreme no_drops shaped area_sum grid_sum grid_at factor covers fits_signed floor_div signed sum sum_ℤ all first_not tab rows_of cols_of
strips_hold = tt
