-- What a pass leaves, from what stands at each place.
-- Assumes nothing.
use Rattle.std.proofs.Common.{◌≡◌, ℕ, ◌+◌, ◌<◌, ◌≤◌, List, ◌++◌, length, get_or, drop, sym, subst, ◌∙◌, arith}
use mathlib.Core.Logic.{⊎_elim}
use Rattle.std.proofs.lemmas.Bool.{cases_lt}
use lib.ListN.{set}
use lib.Seq.{get_or-set_same, get_or-set_other}
use native.Mathlib.Nat.{lt_irrefl}
use Rattle.arith.specs.Tab.{tab}
use Rattle.arith.proofs.Passes.{pass_length, pass_done, pass_next}
use Rattle.arith.proofs.Tabs.{tab_cong, tab-get_or}

module _ {A : Type 0} where
  -- a pass over the whole of a slice
  pub filled : (n : ℕ) (f : ℕ → A) (xs : List A) (d : A) → length xs ≡ n → ((k : ℕ) → k < n → get_or xs k d ≡ f k) → xs ≡ tab n f
  filled n f xs d e h = sym (tab-get_or xs n d e) ∙ tab_cong n h

  -- a pass over the first places of a slice
  pub filled_first :
      (n : ℕ) (f : ℕ → A) (xs ys : List A) (d : A) → n ≤ length xs → length ys ≡ length xs → ((k : ℕ) → k < n → get_or ys k d ≡ f k)
      → ((k : ℕ) → n ≤ k → get_or ys k d ≡ get_or xs k d) → ys ≡ tab n f ++ drop n xs
  filled_first n f xs ys d h e done rest =
      sym (tab-get_or ys (length xs) d e) ∙ tab_cong (length xs) (λ k below. at k) ∙ tab-get_or (tab n f ++ drop n xs) (length xs) d (pass_length n f xs h)
    where
      at : (k : ℕ) → get_or ys k d ≡ get_or (tab n f ++ drop n xs) k d
      at k = ⊎_elim (λ (p : k < n). done k p ∙ sym (pass_done n f xs k d p)) (λ (p : n ≤ k). rest k p ∙ sym (pass_next n f xs k d p)) (cases_lt k n)

  -- one place more is done
  pub one_done :
      (f : ℕ → A) (xs : List A) (c : ℕ) (x d : A) → c < length xs → ((k : ℕ) → k < c → get_or xs k d ≡ f k) → x ≡ f c
      → (k : ℕ) → k < c + 1 → get_or (set xs c x) k d ≡ f k
  one_done f xs c x d h done e k below = ⊎_elim
      (λ (p : k < c). get_or-set_other xs c k x d (λ (q : k ≡ c). absurd (lt_irrefl c (subst (λ j. j < c) q p))) ∙ done k p)
      (λ (p : c ≤ k). let q : k ≡ c = omega arith in rw q (get_or-set_same xs c x d h ∙ e))
      (cases_lt k c)
