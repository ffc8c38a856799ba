-- How large the sums under the bounds on a pixel can be.
-- Assumes nothing.
use Rattle.std.specs.Prelude.{ℕ}

-- 2^28, which no loss figure of an accepted table passes
abbrev pub loss_most : ℕ
loss_most = 268435456

-- 2^43: no loss figure of an accepted table, times its weight's size, is above it
abbrev pub share_most : ℕ
share_most = 8796093022208

-- 2^47: nor are sixteen of them together above this
abbrev pub shares_most : ℕ
shares_most = 140737488355328
