-- ⟨log2 n⟩, the least whole number not below log2 n, for n from 1 to 961: the table and its rule.
-- Assumes nothing.
use Rattle.std.specs.Prelude.{ℕ, ◌-◌, ◌^◌, ◌≤◌, ◌<◌, ◌≡◌, List, ◌++◌, get_or, replicate}

-- the table, with the entry for n at n - 1: one 0, one 1, two times 2, four times 3, and so on up to 961 entries
unfoldable pub logs : List ℕ
logs =
    replicate 1 0 ++ replicate 1 1 ++ replicate 2 2 ++ replicate 4 3 ++ replicate 8 4 ++ replicate 16 5
    ++ replicate 32 6 ++ replicate 64 7 ++ replicate 128 8 ++ replicate 256 9 ++ replicate 449 10

-- ⟨log2 n⟩ by the table; 0 for n outside 1 to 961
unfoldable pub log2up : ℕ → ℕ
unfolding logs
log2up n = get_or logs (n - 1) 0

-- the rule of the entry e for n: that for 1 is 0; for n above 1, 2^e is at least n and 2^(e - 1) is below n
pub record LogRule (n e : ℕ) : Type 0 where
  pub one : n ≡ 1 → e ≡ 0
  pub reaches : 1 < n → n ≤ 2 ^ e
  pub least : 1 < n → 2 ^ (e - 1) < n
