-- Assumes nothing.
use Rattle.std.specs.Prelude.{Bool, ◌&&◌, ℤ}
use Rattle.std.specs.Int.Signed.{le_z}

-- two integers are equal: neither is above the other
unfoldable pub eq_z : (y z : ℤ) → Bool
eq_z y z = le_z y z && le_z z y
