-- A window of an odd number of rows or columns reaches as far behind its place as ahead.
-- Assumes nothing.
use Rattle.std.proofs.Common.{ℕ, suc, ◌+◌, ◌-◌, ◌*◌, ◌/◌, ◌≤◌, arith, ◌≡◌, refl, pos, negsuc, le-leb}
use Rattle.filtering.specs.Window.{centred_of}

-- from k before the place to k after it: the trailing edge is at -(k + 1)
pub centred_odd : (k : ℕ) → k ≤ 15 → centred_of (2 * k + 1) ≡ record { lead = pos k; trail = negsuc k }
unfolding centred_of
centred_odd k h =
    let half : (2 * k + 1) / 2 ≡ k = omega arith in
    let rest : 2 * k + 1 - k ≡ suc k = omega arith in
    rw (le-leb 1 (2 * k + 1) (omega arith), le-leb (2 * k + 1) 31 (omega arith), half, rest) refl
