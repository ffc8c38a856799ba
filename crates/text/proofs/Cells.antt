-- A number or an integer spelt in a local buffer, and the part of it that is lent.
-- Assumes nothing.
use Prim.Native.Nat.{ℕ, zero, suc, ◌+◌, ◌-◌, ◌/◌, ◌%◌, ◌≤◌, ◌<◌}
use native.Mathlib.Omega.{arith}
use mathlib.Core.Path.{◌≡◌, sym, ap, ap₂, ◌∙◌}
use mathlib.Core.List.{List, [], ◌∷◌, ◌++◌}
use mathlib.Core.Bool.{Bool, true, false, cond}
use lib.Dec.{ltb}
use lib.ListN.{length, take, drop, set, length-set, length-append, length-drop}
use lib.Seq.{drop-cons, drop-set-lt, get_or-set_same, take_at}
use lib.IntN.{ℤ, pos, negsuc}
use Rattle.arith.specs.Diff.{Diff}
use Rattle.arith.proofs.Parts.{tail_is}
use Rattle.text.specs.Text.{spell, decimal, cell, signed_cell}

-- a store at the start of a tail
pub drop-set : (buf : List ℕ) (i v : ℕ) → i < length buf → drop i (set buf i v) ≡ v ∷ drop (suc i) buf
drop-set buf i v h =
    let l = length-set buf i v in
    drop-cons (set buf i v) i 0 (omega arith)
    ∙ ap₂ ◌∷◌ (get_or-set_same buf i v 0 h) (drop-set-lt (suc i) buf i v (omega arith))

-- `&buf[i..22]` where a number and the byte after it end the buffer
pub cell_lent : (b : List ℕ) (i n end : ℕ) → length b ≡ 22 → drop i b ≡ decimal n ++ (end ∷ []) → take (22 - i) (drop i b) ≡ cell n end
unfolding cell
cell_lent b i n end e d = ap (λ k. take (k - i) (drop i b)) (sym e) ∙ tail_is i b ∙ d

-- `&buf[i..21]` where a number ends before the last byte of the buffer
pub number_lent : (b : List ℕ) (i n : ℕ) (end : List ℕ) → length b ≡ 22 → i ≤ 20 → length end ≡ 1 → drop i b ≡ decimal n ++ end
    → take (21 - i) (drop i b) ≡ decimal n
number_lent b i n end e h one d =
    let l = ap length d ∙ length-append (decimal n) end in
    let k = length-drop i b in
    let m : length (decimal n) ≡ 21 - i = omega arith in
    ap (take (21 - i)) d ∙ take_at (decimal n) end (21 - i) m

-- the same with a sign put in front
pub negative_lent :
    (b : List ℕ) (i n end : ℕ) → length b ≡ 22 → 1 ≤ i → i ≤ 20 → drop i b ≡ decimal n ++ (end ∷ [])
    → take (22 - (i - 1)) (drop (i - 1) (set b (i - 1) 45)) ≡ 45 ∷ cell n end
unfolding cell
negative_lent b i n end e h l d =
    let k : suc (i - 1) ≡ i = omega arith in
    let m = length-set b (i - 1) 45 in
    ap (λ k. take (k - (i - 1)) (drop (i - 1) (set b (i - 1) 45))) (sym (m ∙ e))
    ∙ tail_is (i - 1) (set b (i - 1) 45)
    ∙ drop-set b (i - 1) 45 (omega arith)
    ∙ ap (λ j. 45 ∷ drop j b) k
    ∙ ap (λ t. 45 ∷ t) d

-- an integer raised by 2^31
pub signed_pos : (z : ℤ) (x end : ℕ) → Diff z x 2147483648 → 2147483648 ≤ x → signed_cell z end ≡ cell (x - 2147483648) end
unfolding signed_cell
signed_pos (pos n) x end d h = let e = d.is in let k : n ≡ x - 2147483648 = omega arith in ap (λ m. cell m end) k
signed_pos (negsuc n) x end d h = let e = d.is in absurd (omega arith)

pub signed_neg : (z : ℤ) (x end : ℕ) → Diff z x 2147483648 → x < 2147483648 → signed_cell z end ≡ 45 ∷ cell (2147483648 - x) end
unfolding signed_cell
signed_neg (pos n) x end d h = let e = d.is in absurd (omega arith)
signed_neg (negsuc n) x end d h = let e = d.is in let k : suc n ≡ 2147483648 - x = omega arith in ap (λ m. 45 ∷ cell m end) k

-- ---- lengths

spell-length : (places n : ℕ) → length (spell places n) ≤ places
unfolding spell
spell-length zero n = omega arith
spell-length (suc places) n = go (ltb n 10) (spell-length places (n / 10))
  where
    go :
        (c : Bool) → length (spell places (n / 10)) ≤ places
        → length (cond c ((48 + n) ∷ []) (spell places (n / 10) ++ ((48 + n % 10) ∷ []))) ≤ suc places
    go true h = omega arith
    go false h = let l = length-append (spell places (n / 10)) ((48 + n % 10) ∷ []) in omega arith

-- a number takes at most 20 bytes
pub number_length : (n : ℕ) → length (decimal n) ≤ 20
unfolding decimal
number_length n = spell-length 20 n

-- a number and the byte after it take at most 21 bytes, an integer and the byte after it at most 22
pub cell-length : (n end : ℕ) → length (cell n end) ≤ 21
unfolding cell decimal
cell-length n end = let l = length-append (spell 20 n) (end ∷ []) in let h = spell-length 20 n in omega arith

pub signed_length : (z : ℤ) (end : ℕ) → length (signed_cell z end) ≤ 22
unfolding signed_cell
signed_length (pos n) end = let h = cell-length n end in omega arith
signed_length (negsuc n) end = let h = cell-length (suc n) end in omega arith
