-- A row below 0 is dark.
use Rattle.std.proofs.Common.{◌≡◌, refl, ◌∙◌, ℕ, List, length, ℤ, pos, negsuc, ◌<ℤ◌, ◌+ℤ◌, ◌-ℤ◌, rules, arith}
use Rattle.std.proofs.lemmas.Int.{ints}
use Rattle.arith.proofs.Tabs.{tab_cong}
use Rattle.ring.specs.Ring.{row_at}
use Rattle.arrival.proofs.arriving.Arriving.edge_row.Goals as goal

below : (l a : ℕ) (row samples : List ℕ) (z : ℤ) → z <ℤ pos 0 → (c : ℕ) → 0 ≡ row_at l a row samples z c
unfolding row_at
below l a row samples (negsuc e) h c = refl
below l a row samples (pos e) h c = absurd (omega (arith, ints))

pub returns-then-e-lt0 : goal.returns-then-e-lt0
returns-then-e-lt0 c =
    let a = c.args.self.now in
    let low : ((pos a.number -ℤ pos a.delay) +ℤ c.args.edge) <ℤ pos 0 = search rules in
    c.dark.ensures ∙ tab_cong (length a.row.now) (λ k h. below _ _ _ _ _ low k)
