-- The nearest of 16 bits.
-- Assumes nothing.
use Rattle.std.proofs.Common.{◌≡◌, ap, cond, min, sym, w16, w32}
use Rattle.std.proofs.Math.Facts.{to_z-of_z}
use Rattle.words.specs.Words.{with_sign}
use Rattle.forms.proofs.Signs.{weight_in, hold}
use Rattle.forms.proofs.held.weight.Goals as goal

pub overflow_cast-result : goal.overflow_cast-result
overflow_cast-result c =
    rw (to_z-of_z {w = w32} (record { sfits = c.held.type_inv }), c.held.ensures.value, c.weight_most.ensures) (weight_in _ _)

pub returns : goal.returns
returns c =
    let n = c.number-n.ensures in
    let e : c.held.result ≡ with_sign c.number-n.result.minus (min (cond c.number-n.result.minus 32768 32767) c.number-n.result.size) =
    rw (sym c.weight_most.ensures) c.held.ensures.value in
    rw (
      to_z-of_z {w = w32} (record { sfits = c.held.type_inv }),
      e,
      to_z-of_z {w = w16}
          (weight_in c.number-n.result.minus c.number-n.result.size),
      n.minus_value,
      n.size_value,
    )
    (ap (with_sign _) (hold _ _))
