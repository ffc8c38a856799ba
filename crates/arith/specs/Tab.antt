-- Lists made by a rule.
-- Assumes nothing.
use Rattle.std.specs.Prelude.{ℕ, zero, suc, ◌+◌, List, [], ◌∷◌, ◌++◌, length, take, drop}

-- the list f 0, f 1, .., f (n - 1)
unfoldable pub tab {ℓ} : {A : Type ℓ} → ℕ → (ℕ → A) → List A
tab zero f = []
tab (suc n) f = tab n f ++ (f n ∷ [])

-- k lines of l places one after the other: f 0 0, .., f 0 (l - 1), f 1 0, .., f (k - 1) (l - 1)
unfoldable pub grid {ℓ} : {A : Type ℓ} → (k l : ℕ) → (ℕ → ℕ → A) → List A
grid zero l f = []
grid (suc k) l f = grid k l f ++ tab l (f k)

-- ys with xs in place of what stood from place p on
unfoldable pub paste {ℓ} : {A : Type ℓ} → (p : ℕ) → (xs ys : List A) → List A
paste p xs ys = take p ys ++ xs ++ drop (p + length xs) ys

-- zeros in the first n places
abbrev pub zeroed : (n : ℕ) → List ℕ → List ℕ
zeroed n xs = tab n (λ k. 0) ++ drop n xs
