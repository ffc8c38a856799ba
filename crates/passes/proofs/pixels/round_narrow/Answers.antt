-- `passes::round_narrow` shifts the signed number of the word, and a shift rounds down.
-- Assumes nothing.
use Rattle.std.proofs.Common.{◌≡◌, ℕ, ◌^◌, ℤ, pos, negsuc, refl, ap, ◌∙◌, lt_of_le_of_lt, to_z-of_z, w32, SFits, to_z, of_z}
use lib.Signed.{shr_z, mag_shr}
use Rattle.arith.specs.Floor.{floor_div}
use Rattle.arith.specs.Twos.{signed}
use Rattle.passes.proofs.pixels.round_narrow.Goals as goal

-- the word's shift is the floor division
shifted : (z : ℤ) (t : ℕ) → SFits w32 z → to_z w32 (of_z w32 (shr_z (to_z w32 (of_z w32 z)) (2 ^ t))) ≡ floor_div z t
unfolding floor_div
shifted z t f = rw (to_z-of_z f) (to_z-of_z {w = w32} (record { sfits = lt_of_le_of_lt (mag_shr z (2 ^ t)) f.sfits }) ∙ same z t)
  where
    same : (z : ℤ) (t : ℕ) → shr_z z (2 ^ t) ≡ floor_div z t
    same (pos n) t = refl
    same (negsuc n) t = refl

signed_is : (x : ℕ) → to_z w32 x ≡ signed 32 x
unfolding signed
signed_is x = refl

pub returns : goal.returns
returns c = shifted _ c.args.shift (record { sfits = c.cast_signed.type_inv }) ∙ ap (λ z. floor_div z c.args.shift) (c.cast_signed.ensures ∙ signed_is c.args.value)
