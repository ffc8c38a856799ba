-- `passes::fit_narrow` gathers the OR of the values, each raised by half of the range: it is below the range exactly when each pixel so
-- far fits (`raised_signed`, `floor_fits`); from 32 bits on every pixel does.
-- Assumes nothing.
use Rattle.std.proofs.Common.{◌≡◌, ℕ, ◌+◌, ◌-◌, ◌%◌, ◌^◌, ◌<◌, ◌≤◌, T, ltb, get_or, sym, ◌∙◌, subst, arith, lit<, w32, Fits}
use lib.Pow.{pow-lt}
use Rattle.arith.specs.Twos.{signed, fits_signed}
use Rattle.arith.proofs.Alls.{all_of, or_none, or_next}
use Rattle.arith.proofs.Bools.{true_of}
use Rattle.arith.proofs.Words.{signed_fits, fits_widen, floor_fits, raised_signed, half_shl, twice_shl}
use Rattle.passes.specs.Passes.{rounded_word}
use Rattle.passes.proofs.words.fit_narrow.Goals as goal

-- every value is a signed number of 32 bits and more
wide_fits : (x shift word : ℕ) → x < 2 ^ 32 → 8 ≤ word → 32 ≤ word + shift → T (fits_signed word (rounded_word x shift))
wide_fits x shift word h b l =
    subst T (sym (floor_fits word shift (signed 32 x) (omega arith))) (fits_widen 32 (word + shift) _ l (signed_fits 32 x (lit< tt) h))

-- of fewer bits a value is one exactly when it is below the range, raised
raised-fits :
    (x shift word : ℕ) → x < 2 ^ 32 → 8 ≤ word → word + shift < 32
    → ltb ((x + 2 ^ (word + shift - 1)) % 2 ^ 32) (2 ^ (word + shift)) ≡ fits_signed word (rounded_word x shift)
raised-fits x shift word h b l =
    raised_signed 32 (word + shift) x (omega arith) l h ∙ sym (floor_fits word shift (signed 32 x) (omega arith))

pub returns-then-bits-ge32 : goal.returns-then-bits-ge32
returns-then-bits-ge32 c = let a = c.args in
    sym (true_of _ (all_of _ _ (λ k h. wide_fits (get_or a.acc.now k 0) a.shift a.word (c.type_inv.acc k).fits c.requires.word_least c.if-bits-ge32.true)))

pub loop-value-init : goal.loop-value-init
loop-value-init c = or_none (c.args.word + c.args.shift) _

pub loop-value-preserved : goal.loop-value-preserved
loop-value-preserved c = let a = c.args in
    let b = c.requires.word_least in
    let k = c.loop-value.value-index in
    let m : a.word + a.shift < 32 = c.if-bits-ge32.false in
    or_next (a.word + a.shift) c.loop-value.seen _ k _ c.loop-value.invariant
    (rw (half_shl 32 (a.word + a.shift) (omega arith) (omega arith)) (raised-fits (get_or a.acc.now k 0) a.shift a.word (c.type_inv.acc k).fits b m))

pub overflow_mul-result : goal.overflow_mul-result
overflow_mul-result c = let a = c.args in
    let b = c.requires.word_least in
    let m : a.word + a.shift < 32 = c.if-bits-ge32.false in
    subst (Fits w32) (sym (twice_shl 32 (a.word + a.shift) (omega arith) (omega arith))) (record { fits = pow-lt m })
