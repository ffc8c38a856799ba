-- What `{}` writes, in the words of this crate: numbers, integers and quoted text.
-- Assumes nothing.
use Rattle.std.proofs.Common.{◌≡◌, ℕ, zero, suc, ◌+◌, ◌/◌, ◌%◌, ◌^◌, ◌<◌, ◌≤◌, List, [], ◌∷◌, ◌++◌, cond, ltb, Fits, FitsSigned, w8, w16, w32, w64, ℤ, pos, negsuc, ⊎_elim, refl, sym, ap, ◌∙◌, arith}
use Prim.Native.String.{String, [] as none, ◌∷◌ as ◌then◌}
use Prim.Native.Char.{code}
use lib.Chars.{codes}
use borrow.Author.Tests.{lt-ltb, le-ltb}
use Rattle.std.proofs.lemmas.Fmt.{decimal_step, decimal_digit}
use Rattle.std.specs.Fmt.{decimal as written, signed_decimal}
use Rattle.std.proofs.lemmas.Bool.{cases_lt}
use Rattle.text.specs.Text.{spell, decimal, cell, signed_cell}
use Rattle.text.specs.Ascii.{ascii}

-- enough places spell the whole number
spell_is : (places n : ℕ) → n < 10 ^ suc places → n < 2 ^ 64 → spell (suc places) n ≡ written n
unfolding spell
spell_is zero n h k = rw (lt-ltb n 10 (omega arith)) (sym (decimal_digit n (omega arith)))
spell_is (suc places) n h k = ⊎_elim
    (λ l. rw (lt-ltb n 10 l) (sym (decimal_digit n l)))
    (λ l. rw (le-ltb n 10 l) (ap (λ ds. ds ++ ((48 + n % 10) ∷ [])) (spell_is places (n / 10) (omega arith) (omega arith)) ∙ sym (decimal_step n l k)))
    (cases_lt n 10)

pub decimal_is : (n : ℕ) → n < 2 ^ 64 → decimal n ≡ written n
unfolding decimal
decimal_is n h = spell_is 19 n (omega arith) h

-- a number of 8, 32 or 64 bits, and the byte after it
pub cell_is : (n end : ℕ) → Fits w64 n → cell n end ≡ written n ++ (end ∷ [])
unfolding cell
cell_is n end h = ap (λ ds. ds ++ (end ∷ [])) (decimal_is n h.fits)

pub cell_32 : (n end : ℕ) → Fits w32 n → cell n end ≡ written n ++ (end ∷ [])
cell_32 n end h = cell_is n end (record { fits = omega (arith, h.fits) })

pub cell_8 : (n end : ℕ) → Fits w8 n → cell n end ≡ written n ++ (end ∷ [])
cell_8 n end h = cell_is n end (record { fits = omega (arith, h.fits) })

-- an integer of 8, 16 or 32 bits, and the byte after it
pub signed_cell_is : (z : ℤ) (end : ℕ) → FitsSigned w32 z → signed_cell z end ≡ signed_decimal z ++ (end ∷ [])
unfolding signed_cell
signed_cell_is (pos n) end h = cell_is n end (record { fits = omega (arith, h.sfits) })
signed_cell_is (negsuc n) end h = ap (λ ds. 45 ∷ ds) (cell_is (suc n) end (record { fits = omega (arith, h.sfits) }))

pub signed_cell_16 : (z : ℤ) (end : ℕ) → FitsSigned w16 z → signed_cell z end ≡ signed_decimal z ++ (end ∷ [])
signed_cell_16 (pos n) end h = signed_cell_is (pos n) end (record { sfits = omega (arith, h.sfits) })
signed_cell_16 (negsuc n) end h = signed_cell_is (negsuc n) end (record { sfits = omega (arith, h.sfits) })

pub signed_cell_8 : (z : ℤ) (end : ℕ) → FitsSigned w8 z → signed_cell z end ≡ signed_decimal z ++ (end ∷ [])
signed_cell_8 (pos n) end h = signed_cell_is (pos n) end (record { sfits = omega (arith, h.sfits) })
signed_cell_8 (negsuc n) end h = signed_cell_is (negsuc n) end (record { sfits = omega (arith, h.sfits) })

pub ascii_is : (s : String) → ascii s ≡ codes s
unfolding ascii
ascii_is none = refl
ascii_is (c then s) = ap (λ bs. code c ∷ bs) (ascii_is s)
