-- The marked strips of docs/RULES.md, all of them.
-- Assumes nothing.
use Rattle.std.specs.Prelude.{ℕ, ◌/◌, ◌%◌, Bool, true, false, ◌&&◌, List, [], ◌∷◌, ◌++◌, eqb, length, get_or, replicate, ℤ, pos, negsuc}
use Rattle.std.specs.Int.Signed.{le_z}
use Rattle.arith.specs.All.{all}
use Rattle.layout.specs.Answers.{Said}
use Rattle.layout.specs.Contents.{rect}
use Rattle.layout.specs.Measure.{loss_figure}
use Rattle.table.specs.Format.{load_of, said_of, table_from}
use Rattle.rule.specs.Sums.{sample_at, full_sum, scaled_sum}
use Rattle.pixel.specs.Call.{pixel_answer}

-- a header of b, q1, q2, q3, t and w
head : ℕ → ℕ → ℕ → ℕ → ℕ → ℕ → List ℕ
head b q1 q2 q3 t w = 1 ∷ 0 ∷ 6 ∷ b ∷ q1 ∷ q2 ∷ q3 ∷ t ∷ w ∷ []

-- a 3 by 3 rectangle with weight 1
square : List ℕ
square = 0x02 ∷ 0x00 ∷ 0x06 ∷ 0x01 ∷ 0x01 ∷ 0xfe ∷ 0xfe ∷ 0x00 ∷ 0x01 ∷ []

-- a single sample with weight -9
minus9 : List ℕ
minus9 = 0x02 ∷ 0x00 ∷ 0x06 ∷ 0x00 ∷ 0x00 ∷ 0xff ∷ 0xff ∷ 0xff ∷ 0xf7 ∷ []

-- a single sample with weight 1
single : List ℕ
single = 0x02 ∷ 0x00 ∷ 0x06 ∷ 0x00 ∷ 0x00 ∷ 0xff ∷ 0xff ∷ 0x00 ∷ 0x01 ∷ []

-- the sample on the left: lead 0, -1, trail -1, -2, weight 1
left : List ℕ
left = 0x02 ∷ 0x00 ∷ 0x06 ∷ 0x00 ∷ 0xff ∷ 0xff ∷ 0xfe ∷ 0x00 ∷ 0x01 ∷ []

-- a strip: a file, and
--     loads  the number that loading answers, 0 where it accepts
--     shows  a scan of rows of l samples, and the pixel that the one-pixel call answers at each place
--     sums   a scan, a place, and for the first rectangle the full sum, the cut sum scaled back and the loss figure
pub data Strip : Type 0 where
  loads : (file : List ℕ) → (number : ℕ) → Strip
  shows : (file : List ℕ) → (l : ℕ) → (scan : List ℕ) → (pixels : List ℤ) → Strip
  sums : (file : List ℕ) → (l : ℕ) → (scan : List ℕ) → (r c full cut figure : ℕ) → Strip

unfoldable pub strips : List Strip
unfolding head square minus9 single left
strips =
    shows (head 8 0 0 0 2 16 ++ square ++ minus9) 3 (replicate 9 10)
    (negsuc 12 ∷ negsuc 7 ∷ negsuc 12 ∷ negsuc 7 ∷ pos 0 ∷ negsuc 7 ∷ negsuc 12 ∷ negsuc 7 ∷ negsuc 12 ∷ [])
    ∷ loads (head 8 0 0 0 2 10 ++ square ++ minus9) 0
    ∷ loads (head 8 0 0 0 2 9 ++ square ++ minus9) 10
    ∷ sums (head 8 1 1 0 0 32 ++ square) 3 (replicate 9 3) 1 1 27 12 15
    ∷ sums (head 8 1 1 0 0 32 ++ square) 3 (replicate 9 4) 1 1 36 36 15
    ∷ sums (head 8 1 1 1 0 32 ++ square) 3 (replicate 9 4) 1 1 36 32 19
    ∷ sums (head 8 7 0 0 0 32 ++ single) 1 (255 ∷ []) 0 0 255 128 127
    ∷ loads (head 8 8 0 0 0 32 ++ single) 4
    ∷ shows (head 8 0 0 0 0 32 ++ left) 3 (0 ∷ 0 ∷ 9 ∷ 0 ∷ 0 ∷ 0 ∷ []) (replicate 6 (pos 0))
    ∷ loads [] 1
    ∷ loads (head 8 0 0 0 2 16) 9
    ∷ loads (head 8 0 0 0 2 16 ++ (0x02 ∷ 0x00 ∷ [])) 7
    ∷ loads (head 8 0 0 0 2 16 ++ (0x02 ∷ 0x00 ∷ 0x06 ∷ 0x01 ∷ 0x01 ∷ 0xfe ∷ 0xfe ∷ 0x00 ∷ [])) 2
    ∷ []

-- there is one value, and it is this
abbrev pub is_only : List ℤ → ℤ → Bool
is_only [] z = false
is_only (p ∷ []) z = le_z p z && le_z z p
is_only (p ∷ q ∷ ps) z = false

-- a call says this pixel
abbrev pub is_pixel : Said → ℤ → Bool
is_pixel s z = eqb s.kind 1 && is_only s.values z

-- the definitions give a strip
unfoldable pub gives : Strip → Bool
gives (loads file number) = eqb (said_of (load_of file)).number number
gives (shows file l scan pixels) =
    eqb (length pixels) (length scan)
    && all (length scan) (λ k. is_pixel (pixel_answer (table_from (load_of file)) l scan (k / l) (k % l)) (get_or pixels k (pos 0)))
gives (sums file l scan r c full cut figure) =
    eqb (full_sum (sample_at l scan) (rect (table_from (load_of file)) 0) (pos r) (pos c)) full
    && (eqb (scaled_sum (table_from (load_of file)) (sample_at l scan) (rect (table_from (load_of file)) 0) (pos r) (pos c)) cut
    && eqb (loss_figure (table_from (load_of file)) (rect (table_from (load_of file)) 0)) figure)

-- the definitions give them all
unfoldable pub holds : List Strip → Bool
holds [] = true
holds (s ∷ ss) = gives s && holds ss
