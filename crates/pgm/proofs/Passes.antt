-- A pass that writes each place of a store.
-- Assumes nothing.
use Rattle.std.proofs.Common.{◌≡◌, ℕ, ◌<◌, List, length, get_or, sym, ◌∙◌}
use Rattle.arith.specs.Tab.{tab}
use Rattle.arith.proofs.Tabs.{tab_cong, tab-get_or}

-- places that each hold what a rule gives
pub filled_by : {A : Type 0} (f : ℕ → A) (xs : List A) (n : ℕ) (d : A) → length xs ≡ n → ((k : ℕ) → k < n → get_or xs k d ≡ f k) → xs ≡ tab n f
filled_by f xs n d l h = sym (tab-get_or xs n d l) ∙ tab_cong n h
