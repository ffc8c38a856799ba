-- `arrival::sum_most` is the product of the definition, at most 31 · 4,095 by what it asks.
-- Assumes nothing.
use Rattle.std.proofs.Common.{pow_mono, ◌≡◌, mul-le-mul, arith, ◌-◌, ◌*◌, ◌^◌, ◌≤◌}
use Rattle.arrival.specs.Rectangles.{sum_limit}
use Rattle.arrival.proofs.rectangles.sum_most.Goals as goal

pub returns-clause-upper_bound : goal.returns-clause-upper_bound
returns-clause-upper_bound c =
    let power-is : let a = c.args in c.power.result ≡ 2 ^ (a.b - a.q1) = let b = c.requires.2 in c.power.ensures.value (omega arith) in
    let power-most : c.power.result ≤ 4096 = let a = c.args in
    let b = c.requires.2 in
    let l : a.b - a.q1 ≤ 12 = omega arith in
    let p = pow_mono l in
    let e = power-is in omega arith in
    let most : c.rows.result * (c.power.result - 1) ≤ sum_limit = let r : c.rows.result ≤ 31 = let m = c.requires.0 in let e = c.rows.ensures.value in omega arith in
    let h : c.power.result - 1 ≤ 4095 = let p = power-most in omega arith in
    mul-le-mul r h in
    most
