-- A line of zeros, lent in part.
-- Assumes nothing.
use Prim.Native.Nat.{ℕ, ◌≤◌, ◌<◌}
use native.Mathlib.Nat.{le_of_eq}
use native.Mathlib.Omega.{arith}
use mathlib.Core.Path.{◌≡◌, refl, ap, ◌∙◌, sym}
use mathlib.Core.Bool.{Bool, true, false, not}
use mathlib.Core.List.{List, ◌++◌}
use lib.Dec.{T, ltb, ltb→lt, nltb→le}
use lib.ListN.{length, drop, take, replicate, length-replicate, get_or-replicate, get_or, get_or-eq_default}
use lib.Seq.{length-take-le}
use Rattle.arith.specs.Tab.{tab, zeroed}
use Rattle.arith.proofs.Std.{filled}
use Rattle.arith.proofs.Parts.{first_tab}
use Rattle.arith.proofs.Tabs.{tab_cong}
use Rattle.histograms.specs.Spans.{Zeros}

-- the first n places, where a rule is 0 throughout
pub zeros_first : {m : ℕ} {zeros : List ℕ} → Zeros m zeros → (n : ℕ) → n ≤ m → {f : ℕ → ℕ} → ((k : ℕ) → f k ≡ 0) → take n zeros ≡ tab n f
zeros_first {zeros = zeros} z n h e =
    let l = z.long in
    first_tab n n zeros refl (omega arith) ∙ tab_cong n (λ k i. z.none k ∙ sym (e k))

-- fewer of them
pub fewer_zeros : {m : ℕ} {zeros : List ℕ} → Zeros m zeros → (n : ℕ) → n ≤ m → Zeros n zeros
fewer_zeros z n h = record { long = let l = z.long in omega arith; none = z.none }

-- a line of n zeros
pub zeros_all : (n : ℕ) → Zeros n (replicate n 0)
zeros_all n = record { long = le_of_eq (sym (length-replicate {A = ℕ} n 0)); none = λ k. at k (ltb k n) (ltb→lt k n) (nltb→le k n) }
  where
    at : (k : ℕ) (b : Bool) → (T b → k < n) → (T (not b) → n ≤ k) → ◌≡◌ {A = ℕ} (get_or (replicate n 0) k 0) 0
    at k true y o = get_or-replicate n k 0 0 (y tt)
    at k false y o = get_or-eq_default (replicate n 0) 0 {n = k} (let e = length-replicate {A = ℕ} n 0 in let h = o tt in omega arith)

-- zeros in the first n places
pub filled_first : (n : ℕ) (xs : List ℕ) {ys : List ℕ} → n ≤ length xs → ys ≡ replicate (length (take n xs)) 0 → ys ++ drop n xs ≡ zeroed n xs
filled_first n xs h e = ap (λ l. l ++ drop n xs) (e ∙ ap (λ k. replicate k 0) (length-take-le n xs h) ∙ filled n 0)
