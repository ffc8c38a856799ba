-- What the mapping from pixels to the picture promises, and headers read as the grammar says.
-- Assumes nothing.
use Rattle.std.proofs.Common.{ℕ, ◌+◌, ◌-◌, ◌/◌, ◌^◌, ◌≤◌, ◌<◌, arith, div-lt_iff_lt-mul, ◌≡◌, refl, ap, ◌∙◌, T, ℤ, pos, ◌+ℤ◌, ◌≤ℤ◌, pow_pos, pow-add, pow_mono, [], ◌∷◌}
use Rattle.std.proofs.Math.Pow.{shr_mono}
use Rattle.std.specs.Prelude.{Ok, Err}
use Rattle.arith.specs.Diff.{Diff}
use Rattle.arith.specs.Part.{pos_part}
use Rattle.arith.specs.Twos.{fits_signed}
use Rattle.arith.proofs.Bias.{Raised, raised}
use Rattle.arith.proofs.Ints.{diff_pos, diff_parts, diff_add, diff_pos_part, le_diff}
use Rattle.arith.proofs.Words.{fits_mag, pow_half}
use Rattle.pgm.specs.Shade.{shade, level_byte}
use Rattle.pgm.specs.declared.Entry.TheVariants.{Width}
use Rattle.pgm.specs.declared.NoHeader.TheVariants.{More, Bad, Large}
use Rattle.pgm.specs.Grammar.{
  header_of,
  magic,
  ended,
  field,
  begin,
  end,
  value,
  number,
  digits,
  gap,
  in_comment,
  in_gap,
  digit,
  line_end,
  blank,
}

-- a pixel raised keeps its order
raised_order : (p : ℕ) {y z : ℤ} → y ≤ℤ z → pos_part (y +ℤ pos p) ≤ pos_part (z +ℤ pos p)
raised_order p {y} {z} h =
    let l = le_diff (diff_parts y) (diff_parts z) h in
    let a = diff_pos_part (diff_add (diff_parts y) (diff_pos p)) in
    let b = diff_pos_part (diff_add (diff_parts z) (diff_pos p)) in
    omega arith

-- the mapping keeps the order of all pixels, whether they fit the word or not
pub order_kept : (w : ℕ) {y z : ℤ} → y ≤ℤ z → shade w y ≤ shade w z
unfolding shade
order_kept w {y} {z} h = let q = shr_mono (w - 16) (raised_order (2 ^ (w - 1)) h) in omega arith

-- a sample of the picture is at most 65,535
pub in_range : (w : ℕ) (z : ℤ) → shade w z < 65536
unfolding shade
in_range w z = omega arith

-- pixels of w bits fill 16 bits at most
module _ (w : ℕ) (z : ℤ) (h : 0 < w) (t : T (fits_signed w z)) where
  up : Raised z (2 ^ (w - 1))
  up = raised z (2 ^ (w - 1)) (fits_mag w z t)

  is_up : pos_part (z +ℤ pos (2 ^ (w - 1))) ≡ up.sum
  is_up = ap pos_part up.is

  below : up.sum / 2 ^ (w - 16) < 65536
  below =
      (div-lt_iff_lt-mul (pow_pos (w - 16))).1
      (let s = up.small in
      let e = pow_half w h in
      let a = pow-add 2 16 (w - 16) in
      let m : 2 ^ w ≤ 2 ^ (16 + (w - 16)) = pow_mono {j = 16 + (w - 16)} (omega arith) in
      omega arith)

  -- a pixel that fits w bits is raised by 2^(w - 1) and divided by 2^(w - 16), and nothing else
  pub word_mapped : shade w z ≡ pos_part (z +ℤ pos (2 ^ (w - 1))) / 2 ^ (w - 16)
  unfolding shade
  word_mapped = let b = below in rw is_up (omega arith)

  -- up to 16 bits the picture holds the pixel exactly: it is the sample less 2^(w - 1)
  pub exact : w ≤ 16 → Diff z (shade w z) (2 ^ (w - 1))
  exact l =
      let k : w - 16 ≡ 0 = omega arith in
      let e : shade w z ≡ up.sum = word_mapped ∙ rw (is_up, k) (omega arith) in
      rw e up.less

-- a level of 8 bits is its own byte
pub level_exact : (n : ℕ) → n ≤ 255 → level_byte (pos n) ≡ n
unfolding level_byte
level_exact n h = omega arith

-- ---- headers

-- `P5 3 2 255` and a line feed, with a sample after it
plain : header_of (80 ∷ 53 ∷ 32 ∷ 51 ∷ 32 ∷ 50 ∷ 32 ∷ 50 ∷ 53 ∷ 53 ∷ 10 ∷ 7 ∷ []) ≡ Ok (record { width = 3; height = 2; maxval = 255; end = 11 })
unfolding header_of magic ended field begin end value number digits gap in_comment in_gap digit line_end blank
plain = refl

-- the same with the comment `#1` and a line feed before the height
commented : header_of (80 ∷ 53 ∷ 32 ∷ 51 ∷ 32 ∷ 35 ∷ 49 ∷ 10 ∷ 50 ∷ 32 ∷ 50 ∷ 53 ∷ 53 ∷ 10 ∷ 7 ∷ []) ≡ Ok (record { width = 3; height = 2; maxval = 255; end = 14 })
unfolding header_of magic ended field begin end value number digits gap in_comment in_gap digit line_end blank
commented = refl

-- `P5 3`, where the width may go on; `P5 65536 `; `P5 x`
begun : header_of (80 ∷ 53 ∷ 32 ∷ 51 ∷ []) ≡ Err More
unfolding header_of magic ended field begin end value number digits gap in_comment in_gap digit line_end blank
begun = refl

too_large : header_of (80 ∷ 53 ∷ 32 ∷ 54 ∷ 53 ∷ 53 ∷ 51 ∷ 54 ∷ 32 ∷ []) ≡ Err (Large Width 3)
unfolding header_of magic ended field begin end value number digits gap in_comment in_gap digit line_end blank
too_large = refl

no_number : header_of (80 ∷ 53 ∷ 32 ∷ 120 ∷ []) ≡ Err (Bad Width 3)
unfolding header_of magic ended field begin end value number digits gap in_comment in_gap digit line_end blank
no_number = refl
