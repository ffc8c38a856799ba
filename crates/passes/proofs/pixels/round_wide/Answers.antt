-- `passes::round_wide` shifts the signed difference: it fits 64 bits (`sub_fits`), and its quotient 32 by what is asked.
-- Assumes nothing.
use Rattle.arith.proofs.Differences.{sub_value}
use Rattle.arith.proofs.Words.{fits_mag}
use Rattle.std.proofs.Common.{◌≡◌, ◌^◌, ◌<◌, ◌∙◌, arith, lit<, to_z-of_z, w64, to_z, of_z}
use Rattle.passes.specs.Passes.{bias, rounded}
use Rattle.passes.proofs.pixels.round_wide.Goals as goal

pub overflow_cast-result : goal.overflow_cast-result
overflow_cast-result c =
    let same : to_z w64 (of_z w64 c.floor_shift.result) ≡ c.floor_shift.result = to_z-of_z {w = w64} (record { sfits = c.floor_shift.type_inv }) in
    let low : c.args.value < 2 ^ 62 = let l = c.requires.value_at_most in omega arith in
    let quotient : c.floor_shift.result ≡ rounded c.args.value c.args.shift = rw (sub_value c.args.value bias (low) (lit< tt)) at c.floor_shift.ensures in
    rw (same, quotient) (record { sfits = fits_mag 32 _ c.requires.in_word })

pub returns : goal.returns
returns c =
    let same : to_z w64 (of_z w64 c.floor_shift.result) ≡ c.floor_shift.result = to_z-of_z {w = w64} (record { sfits = c.floor_shift.type_inv }) in
    let low : c.args.value < 2 ^ 62 = let l = c.requires.value_at_most in omega arith in
    let quotient : c.floor_shift.result ≡ rounded c.args.value c.args.shift = rw (sub_value c.args.value bias (low) (lit< tt)) at c.floor_shift.ensures in
    to_z-of_z (overflow_cast-result c) ∙ same ∙ quotient
