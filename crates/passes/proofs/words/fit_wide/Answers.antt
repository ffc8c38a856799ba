-- `passes::fit_wide` gathers the OR of the values, each without the bias and raised by half of the range: it is below the range exactly
-- when each pixel so far fits (`raised_sub`, `floor_fits`).
-- Assumes nothing.
use Rattle.std.proofs.Common.{◌≡◌, ℕ, ◌+◌, ◌-◌, ◌%◌, ◌^◌, ◌≤◌, ltb, get_or, sym, refl, ◌∙◌, subst, arith, pow_mono, w64, Fits}
use lib.IntN.{sub_ℕ}
use lib.Pow.{pow-lt}
use Rattle.arith.specs.Twos.{fits_signed}
use Rattle.arith.proofs.Alls.{or_none, or_next}
use Rattle.arith.proofs.Words.{floor_fits, raised_sub, half_shl, twice_shl}
use Rattle.passes.specs.Passes.{bias, value_most, rounded}
use Rattle.passes.proofs.words.fit_wide.Goals as goal

-- half of the range less the bias, modulo 2^64, added to a value raises it and takes the bias off
raised : (x h raise r : ℕ) → x ≤ value_most → h ≤ 2 ^ 62 → raise ≡ (h + (2 ^ 64 - bias)) % 2 ^ 64 → r ≡ (x + raise) % 2 ^ 64 → (r + bias) % 2 ^ 64 ≡ x + h
raised x h raise r m l f e = omega arith

-- it is then below the range exactly when its pixel fits
raised-fits :
    (x raise r shift word : ℕ) → x ≤ value_most → 8 ≤ word → word + shift ≤ 63
    → raise ≡ (2 ^ (word + shift - 1) + (2 ^ 64 - bias)) % 2 ^ 64 → r ≡ (x + raise) % 2 ^ 64
    → ltb r (2 ^ (word + shift)) ≡ fits_signed word (rounded x shift)
raised-fits x raise r shift word m b l f e =
    let p : 2 ^ (word + shift) ≤ 2 ^ 63 = pow_mono l in
    let q : 2 ^ (word + shift - 1) ≤ 2 ^ 62 = pow_mono {j = 62} (omega arith) in
    raised_sub 64 (word + shift) x bias r (omega arith) (omega arith) (omega arith) (raised x (2 ^ (word + shift - 1)) raise r m q f e)
    ∙ sym (floor_fits word shift (sub_ℕ x bias) (omega arith))

pub loop-value-init : goal.loop-value-init
loop-value-init c = or_none (c.args.word + c.args.shift) _

pub loop-value-preserved : goal.loop-value-preserved
loop-value-preserved c = let a = c.args in
    let p = c.requires in
    let k = c.loop-value.value-index in
    or_next (a.word + a.shift) c.loop-value.seen _ k _ c.loop-value.invariant
    (rw (half_shl 64 (a.word + a.shift) (omega arith) (omega arith))
    (raised-fits (get_or a.acc.now k 0) _ _ a.shift a.word (p.value_at_most k (omega arith)) p.word_least (omega arith) refl refl))

pub overflow_mul-result : goal.overflow_mul-result
overflow_mul-result c = let a = c.args in
    let p = c.requires in
    subst (Fits w64) (sym (twice_shl 64 (a.word + a.shift) (omega arith) (omega arith))) (record { fits = pow-lt {j = 64} (omega arith) })
