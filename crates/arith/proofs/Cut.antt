-- Quotients: truncation by a power of two, and how much a store holds.
-- Assumes nothing.
use Rattle.std.proofs.Common.{ℕ, zero, suc, ◌+◌, ◌-◌, ◌*◌, ◌/◌, ◌%◌, ◌^◌, ◌≤◌, ◌<◌, mod-lt, div-mul-le_self, mul-le-mul_left, arith, pow_pos, ◌≡◌, Bool, true, false, not, T, leb, leb→le, le-leb}
use Rattle.std.proofs.Math.Nat.{div-add-mod, lt-div-mul-add}
use Rattle.std.proofs.Math.Pow.{le_ones}
use Rattle.std.proofs.Math.Dec.{nleb→lt}
use Rattle.std.proofs.lemmas.Bool.{lt-leb}
use Rattle.arith.specs.Sum.{sum}

-- a remainder by 2^q is at most 2^q - 1
pub rem_le : (q x : ℕ) → x % 2 ^ q ≤ 2 ^ q - 1
rem_le q x = le_ones q (mod-lt x (pow_pos q))

-- a sum is p times the sum of the quotients, and the sum of the remainders
pub sum_cut : (p n : ℕ) (f : ℕ → ℕ) → sum n f ≡ p * sum n (λ k. f k / p) + sum n (λ k. f k % p)
unfolding sum
sum_cut p zero f = omega arith
sum_cut p (suc n) f = let h = sum_cut p n f in let e = div-add-mod (f n) p in omega arith

-- n holds k·l where n / k holds l
pub divided : (k l n : ℕ) → 0 < k → leb (k * l) n ≡ leb l (n / k)
divided k l n p = go (leb l (n / k)) (leb→le l (n / k)) (nleb→lt l (n / k))
  where
    go : (b : Bool) → (T b → l ≤ n / k) → (T (not b) → n / k < l) → leb (k * l) n ≡ b
    go true f g =
        let m = mul-le-mul_left k (f tt) in
        let d = div-mul-le_self n k in
        le-leb (k * l) n (omega arith)
    go false f g =
        let m = mul-le-mul_left k (g tt) in
        let d = lt-div-mul-add {a = n} p in
        lt-leb (k * l) n (omega arith)
