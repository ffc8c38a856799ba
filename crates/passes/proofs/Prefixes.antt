-- Laws of running sums and of differences, modulo 2^32, and of the part of a rectangle, its weight times a scaled sum.
-- Assumes nothing.
use Rattle.std.proofs.Common.{◌≡◌, ℕ, ◌+◌, ◌*◌, ◌%◌, ◌<◌, ◌≤◌, List, get_or, sym, ap, ◌∙◌, mod-eq_of_lt, mul-le-mul, add-one, arith}
use native.Mathlib.Nat.{div-add-mod, mod-add-mod}
use Rattle.arith.proofs.Sums.{sum-suc}
use Rattle.passes.specs.Passes.{prefix, less, part_most, scaled_end}

-- a place x added to the sum s of those before it
pub running_next : (line : List ℕ) (i s x : ℕ) → s ≡ prefix line i % 4294967296 → x ≡ get_or line i 0 → (s + x) % 4294967296 ≡ prefix line (i + 1) % 4294967296
running_next line i s x e f =
    rw (e, f) (mod-add-mod (prefix line i) 4294967296 (get_or line i 0) ∙ ap (λ s. s % 4294967296) (sym (sum-suc i (λ j. get_or line j 0))))
    ∙ ap (λ k. prefix line k % 4294967296) (sym (add-one i))

-- the difference of two places, as it is taken
pub less_is : (p g d : ℕ) → d < 4294967296 → (d + g) % 4294967296 ≡ p → d ≡ less p g
less_is p g d h e =
    let q = div-add-mod (d + g) 4294967296 in
    let r = div-add-mod (p + 4294967295 * g) 4294967296 in
    omega arith

-- a scaled sum is not cut at 32 bits
pub scaled_exact : (x : ℕ) → x < scaled_end → x % 4294967296 ≡ x
scaled_exact x h = mod-eq_of_lt (omega arith)

-- a weight of at most 2^15 times it is at most 2^37
pub part_le : (w x : ℕ) → w ≤ 32768 → x < scaled_end → w * x ≤ part_most
part_le w x h l =
    let m : x ≤ scaled_end = omega arith in
    mul-le-mul h m
