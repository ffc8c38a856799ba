-- above - below divided by 2^shift and rounded down, by the law of differences of words.
use Rattle.std.proofs.Math.IntN.{sub_ℕ}
use Rattle.std.proofs.Common.{to_z-of_z, ◌≡◌, ◌∙◌}
use Rattle.arith.proofs.Words.{fits_mag}
use Rattle.arith.specs.Floor.{floor_div}
use mir.Syntax.{w64}
use mir.Val.{to_z, of_z}
use Rattle.arith.proofs.Differences.{sub_value}
use Rattle.pixel.proofs.value.round_pixel.Goals as goal

pub overflow_cast-result : goal.overflow_cast-result
overflow_cast-result c =
    let same : to_z w64 (of_z w64 c.floor_shift.result) ≡ c.floor_shift.result = to_z-of_z {w = w64} (record { sfits = c.floor_shift.type_inv }) in
    let quotient : c.floor_shift.result ≡ floor_div (sub_ℕ c.args.above c.args.below) c.args.shift = rw (sub_value c.args.above c.args.below c.requires.above_bound.0 c.requires.above_bound.1) at c.floor_shift.ensures in
    rw (same, quotient) (record { sfits = fits_mag 32 _ c.requires.t })

pub returns : goal.returns
returns c =
    let same : to_z w64 (of_z w64 c.floor_shift.result) ≡ c.floor_shift.result = to_z-of_z {w = w64} (record { sfits = c.floor_shift.type_inv }) in
    let quotient : c.floor_shift.result ≡ floor_div (sub_ℕ c.args.above c.args.below) c.args.shift = rw (sub_value c.args.above c.args.below c.requires.above_bound.0 c.requires.above_bound.1) at c.floor_shift.ensures in
    to_z-of_z (overflow_cast-result c) ∙ same ∙ quotient
