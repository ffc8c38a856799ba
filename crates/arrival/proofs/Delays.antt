-- The delay of a table within the limits.
-- Assumes nothing.
use Rattle.std.proofs.Common.{◌≤◌, arith, ◌≡◌, true}
use Rattle.arith.proofs.Ints.{diff_pos_part}
use Rattle.arith.proofs.Maxima.{largest_bound}
use Rattle.layout.specs.declared.Table.{Table}
use Rattle.layout.specs.Measure.{delay_of}
use Rattle.limits.specs.Limits.{acceptable}
use Rattle.limits.proofs.Granted.{granted}

pub delay_most : (t : Table) → acceptable t ≡ true → delay_of t ≤ 15
unfolding delay_of
delay_most t e =
    let g = granted t e in
    largest_bound t.count 15 (λ k l. let r = (g.bounds k l).row in let p = diff_pos_part r.lead_is in let m = r.most in omega arith)
