-- Nine bytes: a mark, four signed bytes, and a signed number of two.
use Rattle.std.proofs.Common.{◌≡◌, ℕ, ℤ, ◌<◌, ◌/◌, ◌%◌, ◌∙◌, ap, arith, rules, FitsSigned, w8, w16, to_z, of_z, to_z-of_z}
use Rattle.arith.specs.Twos.{unsigned}
use Rattle.arith.proofs.Std.{unsigned_cast}
use Rattle.arith.proofs.Words.{mag_fits, unsigned-lt}
use Rattle.table.specs.Format.{encode_rect}
use Rattle.table.proofs.writing.put_rect.Goals as goal

byte : (x : ℕ) (z : ℤ) → FitsSigned w8 z → x ≡ of_z w8 (to_z w8 (of_z w8 z)) → x ≡ unsigned 8 z
byte x z f e = e ∙ ap (of_z w8) (to_z-of_z {w = w8} f) ∙ unsigned_cast w8 z

word : (z : ℤ) → FitsSigned w16 z → of_z w16 (to_z w16 (of_z w16 z)) ≡ unsigned 16 z
word z f = ap (of_z w16) (to_z-of_z {w = w16} f) ∙ unsigned_cast w16 z

high : (x : ℕ) → x < 65536 → x / 256 % 256 ≡ x / 256
high x h = omega arith

pub returns : goal.returns
unfolding encode_rect
returns c =
    let r = c.args.r in
    let f0 : FitsSigned w8 r.leadrow = search rules in
    let f1 : FitsSigned w8 r.leadcol = search rules in
    let f2 : FitsSigned w8 r.trailrow = search rules in
    let f3 : FitsSigned w8 r.trailcol = search rules in
    let f4 : FitsSigned w16 r.weight = search rules in
    let h = c.to_be_bytes.ensures in
    rw (
      c.copy_from_slice.ensures.after,
      byte _ _ f0 c.cast_unsigned.ensures,
      byte _ _ f1 c.cast_unsigned-2.ensures,
      byte _ _ f2 c.cast_unsigned-3.ensures,
      byte _ _ f3 c.cast_unsigned-4.ensures,
      h,
      word _ f4,
      high (unsigned 16 r.weight) (unsigned-lt 16 r.weight (omega arith) (mag_fits 16 r.weight f4.sfits)),
    )
