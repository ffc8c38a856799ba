-- What the questions before 19 tell of the stores.
-- Assumes nothing.
use Rattle.std.proofs.Common.{ℕ, ◌*◌, ◌≤◌, ◌≡◌, sym, subst, true, ◌&&◌, T, leb, leb→le}
use Rattle.std.proofs.Math.Facts.{and_yes}
use Rattle.arith.proofs.Bools.{true_of}
use Rattle.arrival.specs.Arrivals.{stores_good}

-- stores that are long enough
pub stores_bounds : (l count samples sums : ℕ) → stores_good l count samples sums ≡ true → (32 * l ≤ samples) × (count * l ≤ sums)
unfolding stores_good
stores_bounds l count samples sums e =
    let h = and_yes (leb (32 * l) samples) (leb (count * l) sums) (subst T (sym e) tt) in
    (leb→le (32 * l) samples h.0, leb→le (count * l) sums h.1)

pub lent_bounds :
    (l count samples sums out : ℕ) → (stores_good l count samples sums && leb l out) ≡ true
    → (32 * l ≤ samples) × (count * l ≤ sums) × (l ≤ out)
lent_bounds l count samples sums out e =
    let h = and_yes (stores_good l count samples sums) (leb l out) (subst T (sym e) tt) in
    let b = stores_bounds l count samples sums (true_of _ h.0) in
    (b.0, b.1, leb→le l out h.1)
