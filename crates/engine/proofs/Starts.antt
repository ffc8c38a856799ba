-- The local line at its start is what the steps of an arrival ask for.
-- Assumes nothing.
use Rattle.std.proofs.Common.{ℕ, zero, suc, ◌+◌, ◌≤◌, ◌≡◌, refl, get_or, replicate}
use Rattle.std.proofs.lemmas.List.{length-replicate}
use Rattle.arrival.specs.Rectangles.{ZeroPadded}

zero_at : (n i : ℕ) → get_or {A = ℕ} (replicate n 0) i 0 ≡ 0
zero_at zero i = refl
zero_at (suc n) zero = refl
zero_at (suc n) (suc i) = zero_at n i

pub padded_none : (w n : ℕ) → w + 48 ≤ n → ZeroPadded w (replicate n 0)
padded_none w n h = record { places = rw (length-replicate {A = ℕ} n 0) h; before = λ i l. zero_at n i; after = λ i l. zero_at n i }
