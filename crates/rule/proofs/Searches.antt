-- The first place at which a test fails, as std's `position` answers it.
-- Assumes nothing.
use Rattle.std.proofs.Common.{ℕ, ◌≡◌, ◌≤◌, ap, Bool, true, false, not, cond, refl, arith, List, length, get_or, position, unwrap_or, Some, None}
use Rattle.std.proofs.Math.Dec.{T, ltb, nltb→le}
use Rattle.std.specs.List.{position_or_len}
use Rattle.std.proofs.lemmas.List.Sums.{position_or_len_is}
use Rattle.arith.specs.First.{first_not}
use Rattle.arith.proofs.Bools.{true_of}
use Rattle.arith.proofs.Firsts.{first_before, first_fails, first_most}

pub first_search : (p : ℕ → Bool) (xs : List ℕ) → unwrap_or (position (λ x. not (p x)) xs) (length xs) ≡ first_not (length xs) (λ k. p (get_or xs k 0))
first_search p xs =
    let n = length xs in
    let f : ℕ → Bool = λ k. p (get_or xs k 0) in
    let i = first_not n f in
    let e : position_or_len (λ x. not (p x)) xs ≡ i =
    position_or_len_is (λ x. not (p x)) xs i 0 (first_most n f) (λ k h. ap not (true_of (f k) (first_before n f k h))) (λ h. ap not (first_fails n f h)) in
    rw e (go n i (first_most n f) (ltb i n) (nltb→le i n))
  where
    go : (n i : ℕ) → i ≤ n → (b : Bool) → (T (not b) → n ≤ i) → unwrap_or (cond b (Some i) None) n ≡ i
    go n i m true g = refl
    go n i m false g = let h = g tt in omega arith
