-- Four signed bytes, and a signed number of two.
use Rattle.std.proofs.Common.{◌≡◌, ◌<◌, ℕ, ℤ, ◌∙◌, w8, w16, to_z, of_z, to_z-of_z}
use Rattle.std.specs.Int.Signed.{mag}
use Rattle.arith.specs.Twos.{signed}
use Rattle.arith.proofs.Std.{signed_cast}
use Rattle.table.proofs.reading.rect_of.Goals as goal

byte : (z : ℤ) (x : ℕ) → mag z < 128 → z ≡ to_z w8 x → to_z w8 (of_z w8 z) ≡ signed 8 x
byte z x f e = to_z-of_z {w = w8} (record { sfits = f }) ∙ e ∙ signed_cast w8 x

word : (z : ℤ) (x : ℕ) → mag z < 32768 → z ≡ to_z w16 x → to_z w16 (of_z w16 z) ≡ signed 16 x
word z x f e = to_z-of_z {w = w16} (record { sfits = f }) ∙ e ∙ signed_cast w16 x

pub returns : goal.returns
returns c = λ i. record {
  leadrow = byte _ _ c.cast_signed.type_inv c.cast_signed.ensures i;
  leadcol = byte _ _ c.cast_signed-2.type_inv c.cast_signed-2.ensures i;
  trailrow = byte _ _ c.cast_signed-3.type_inv c.cast_signed-3.ensures i;
  trailcol = byte _ _ c.cast_signed-4.type_inv c.cast_signed-4.ensures i;
  weight = word _ _ c.from_be_bytes.type_inv c.from_be_bytes.ensures i;
}
