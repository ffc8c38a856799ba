-- `figures::losses::ceil_shift`: 2^t - 1 more, shifted.
-- Assumes nothing.
use Rattle.std.proofs.Common.{arith, ◌≡◌, ap, ◌+◌, ◌-◌, ◌/◌, ◌^◌}
use Rattle.figures.specs.Measured.{ceil_div}
use Rattle.figures.proofs.losses.ceil_shift.Goals as goal

pub returns : goal.returns
unfolding ceil_div
returns c =
    let power-is : c.power.result ≡ 2 ^ c.args.t = let p = c.requires in c.power.ensures.value (omega arith) in
    ap (λ p. (c.args.n + (p - 1)) / 2 ^ c.args.t) (power-is)
