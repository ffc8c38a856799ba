-- What std's methods answer, in this crate's words.
-- Assumes nothing.
use Rattle.std.proofs.Common.{ℕ, suc, ◌≡◌, refl, sym, ◌∙◌, ◌≤◌, ◌-◌, ◌^◌, Bool, true, false, cond, ltb, ℤ, pos, negsuc, List, length, get_or, take, replicate, arith, w8, w16, w32, w64, to_z, of_z, ext_get_or}
use Rattle.std.specs.Int.{Width}
use Rattle.std.proofs.lemmas.List.{get_or-take, length-take, get_or-replicate, length-replicate}
use mir.Syntax.{w128}
use mir.Val.{sel, bits, hbits}
use Rattle.arith.specs.Tab.{tab}
use Rattle.arith.specs.Twos.{signed, unsigned}
use Rattle.arith.proofs.Tabs.{length-tab, get_or-tab}

either : (b : Bool) (x y : ℤ) → sel b x y ≡ cond b x y
either true x y = refl
either false x y = refl

half_bits : (w : Width) → hbits w ≡ bits w - 1
half_bits w8 = refl
half_bits w16 = refl
half_bits w32 = refl
half_bits w64 = refl
half_bits w128 = refl

-- `cast_signed` and `from_be_bytes`
pub signed_cast : (w : Width) (x : ℕ) → to_z w x ≡ signed (bits w) x
unfolding signed
signed_cast w x = rw (half_bits w) (either (ltb x (2 ^ (bits w - 1))) (pos x) (negsuc (2 ^ bits w - suc x)))

-- `cast_unsigned` and `to_be_bytes`
pub unsigned_cast : (w : Width) (z : ℤ) → of_z w z ≡ unsigned (bits w) z
unfolding unsigned
unsigned_cast w (pos n) = refl
unsigned_cast w (negsuc n) = refl

-- `fill`, of the first n places
pub filled : (n x : ℕ) → replicate n x ≡ tab n (λ k. x)
filled n x =
    ext_get_or 0 (replicate n x) (tab n (λ k. x)) (length-replicate n x ∙ sym (length-tab n _))
    (λ k p. let l = length-replicate n x in get_or-replicate n k x 0 (omega arith) ∙ sym (get_or-tab n (λ k. x) k 0 (omega arith)))

-- `copy_from_slice`, of the first n places
pub copied : (xs : List ℕ) (n : ℕ) → n ≤ length xs → take n xs ≡ tab n (λ k. get_or xs k 0)
copied xs n h =
    let l : length (take n xs) ≡ n = length-take n xs ∙ omega arith in
    ext_get_or 0 (take n xs) (tab n (λ k. get_or xs k 0)) (l ∙ sym (length-tab n _))
    (λ k p. get_or-take n xs k 0 (omega arith) ∙ sym (get_or-tab n (λ k. get_or xs k 0) k 0 (omega arith)))
