-- What the calls answer lies within the stores.
-- Assumes nothing.
use Prim.Native.Nat.{ℕ, zero, suc, ◌*◌, ◌/◌, ◌≤◌, min}
use lib.Dec.{leb}
use native.Mathlib.Omega.{arith}
use native.Mathlib.Nat.{div-mul-le_self, mul-le-mul}
use mathlib.Core.Path.{◌≡◌}
use mathlib.Core.Bool.{Bool, true, false, cond}
use Rattle.arith.specs.First.{first_not}
use Rattle.pgm.specs.Raster.{sample_bytes, decoded_count}
use Rattle.filtering.specs.Moves.{packed_count}

pub decoded_in : (n maxval bytes places : ℕ) → n ≡ decoded_count maxval bytes places → n ≤ places
unfolding decoded_count
decoded_in n maxval bytes places e = omega arith

first_within : (n : ℕ) (f : ℕ → Bool) → first_not n f ≤ n
unfolding first_not
first_within zero f = omega arith
first_within (suc n) f = go (f 0) (first_within n (λ k. f (suc k)))
  where
    go : (t : Bool) → first_not n (λ k. f (suc k)) ≤ n → cond t (suc (first_not n (λ k. f (suc k)))) 0 ≤ suc n
    go true h = omega arith
    go false h = omega arith

pub first_in : (k n : ℕ) (f : ℕ → Bool) → k ≡ first_not n f → k ≤ n
first_in k n f e = let h = first_within n f in omega arith

pub whole_in : (r n l : ℕ) → r ≡ n / l * l → r ≤ n
whole_in r n l e = let d = div-mul-le_self n l in omega arith

pub packed_within : (rows l places : ℕ) → packed_count rows l places ≤ places
unfolding packed_count
packed_within rows l places =
    let d = div-mul-le_self places l in
    let m = mul-le-mul {n₁ = min rows (places / l)} {m₁ = l} {n₂ = places / l} {m₂ = l} (omega arith) (omega arith) in
    omega arith

-- so many rows' bytes have so many rows' samples at most
pub decoded_few :
    (n maxval bytes places k width : ℕ) → n ≡ decoded_count maxval bytes places → bytes ≤ k * (width * sample_bytes maxval) → n ≤ k * width
unfolding decoded_count sample_bytes
decoded_few n maxval bytes places k width e h = go (leb maxval 255) e h
  where
    go : (t : Bool) → n ≡ min (bytes / cond t 1 2) places → bytes ≤ k * (width * cond t 1 2) → n ≤ k * width
    go true e h = omega arith
    go false e h = omega arith
