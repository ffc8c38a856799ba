-- The window sum cut and scaled back; with samples of b bits it is below 2^22.
use Rattle.std.proofs.Common.{pos, ap, ap₂, ◌∙◌, arith, ◌-◌, ◌*◌, ◌/◌, ◌^◌, ◌≤◌}
use Rattle.std.proofs.Math.Nat.{mul-le-mul}
use Rattle.std.proofs.Math.Pow.{pow_mono}
use Rattle.rule.proofs.Fitting.{full_most, scaled_le_full}
use Rattle.rule.specs.Sums.{sample_at, cut_sum, scaled_sum}
use Rattle.pixel.proofs.value.scaled_sum.Goals as goal

pub returns-clause-value : goal.returns-clause-value
unfolding scaled_sum cut_sum
returns-clause-value c =
    let p = c.requires.b_bound in
    ap₂ ◌*◌ (c.from.ensures ∙ ap (λ s. s / 2 ^ c.args.t.now.q3) c.window_sum.ensures) (c.power.ensures.value (omega arith))

pub returns-clause-upper_bound : goal.returns-clause-upper_bound
returns-clause-upper_bound c =
    let a = c.args in
    let t = a.t.now in
    let x = sample_at a.scan.now.width a.scan.now.samples.now in
    let p = c.requires.b_bound in
    let l = scaled_le_full t x a.d (pos a.r) (pos a.c) in
    let f = full_most t.b {x = x} c.requires.has_bits a.d (pos a.r) (pos a.c) in
    let n = mul-le-mul p.4 p.5 in
    let b = pow_mono p.0 in
    let e : 2 ^ t.b - 1 ≤ 4095 = omega arith in
    let m = mul-le-mul n e in
    rw (returns-clause-value c) (omega arith)
