-- `arrival::factor` multiplies the weight as a number modulo 2^32, which is that of the definition but for a multiple of 2^32, and so are both
-- times 2^q.
use Rattle.std.proofs.Common.{ℕ, suc, ◌+◌, ◌-◌, ◌*◌, ◌%◌, ◌^◌, ◌<◌, mod-eq_of_lt, arith, ◌≡◌, ap, ◌∙◌, ℤ, pos, negsuc, rules, w32, of_z}
use Rattle.std.proofs.Math.Pow.{pow_mono}
use Rattle.std.specs.Int.Signed.{mag}
use Rattle.arith.proofs.Residues.{same_rest}
use Rattle.arrival.specs.Rectangles.{factor_of}
use Rattle.arrival.proofs.rectangles.factor.Goals as goal

below : (r s p : ℕ) → r + s ≡ 4294967296 → r * p % 4294967296 ≡ (0 + 4294967295 * s) * p % 4294967296
below r s p e = let f = ap (λ x. x * p) e in same_rest (r * p) ((0 + 4294967295 * s) * p) 4294967296 (s * p) p (omega arith)

same-factor : (z : ℤ) (q : ℕ) → mag z < 2147483648 → of_z w32 z * 2 ^ q % 4294967296 ≡ factor_of z q
unfolding factor_of
same-factor (pos n) q h = ap (λ x. x * 2 ^ q % 4294967296) (omega arith)
same-factor (negsuc n) q h = below (4294967296 - suc n) (suc n) (2 ^ q) (omega arith)

pub returns : goal.returns
returns c =
    let p = pow_mono c.requires in
    let power : 1 * 2 ^ c.args.q % 4294967296 ≡ 2 ^ c.args.q = mod-eq_of_lt (omega arith) ∙ omega arith in
    let cast : c.cast_unsigned.result ≡ of_z w32 c.args.weight = search rules in
    let small : mag c.args.weight < 2147483648 = search rules in
    rw (power, cast) (same-factor c.args.weight c.args.q small)
