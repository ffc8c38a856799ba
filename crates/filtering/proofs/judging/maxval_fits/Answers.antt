-- From 12 bits on every maxval up to 4,095 fits; below that the power is looked at.
use Rattle.std.proofs.Common.{◌*◌, ◌%◌, ◌^◌, ◌≤◌, ◌≡◌, ltb, sym, ap, ◌∙◌, arith, pow_mono, lt-ltb, le-leb}
use Rattle.filtering.specs.Judging.{maxval_fits}
use Rattle.filtering.proofs.judging.maxval_fits.Goals as goal

pub returns-then-b-ge12 : goal.returns-then-b-ge12
unfolding maxval_fits
returns-then-b-ge12 c =
    let p : 4096 ≤ 2 ^ c.args.b = pow_mono {i = 12} {j = c.args.b} c.if-b-ge12.true in
    le-leb _ _ c.if-b-ge12.true ∙ sym (lt-ltb c.args.maxval (2 ^ c.args.b) (omega arith))

pub returns-else-b-ge12 : goal.returns-else-b-ge12
unfolding maxval_fits
returns-else-b-ge12 c =
    let p : 2 ^ c.args.b ≤ 2 ^ 12 = pow_mono {i = c.args.b} {j = 12} (omega arith) in
    let e : 1 * 2 ^ c.args.b % 4294967296 ≡ 2 ^ c.args.b = omega arith in
    ap (ltb c.args.maxval) e
