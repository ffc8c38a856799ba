-- Half ahead and the others behind.
use Rattle.std.proofs.Common.{◌≡◌, ℕ, zero, suc, ◌-◌, ◌/◌, ◌<◌, ◌≤◌, pos, ◌-ℤ◌, sym, refl, ◌∙◌, arith, to_z, of_z, w8, to_z-of_z, neg_ℤ, lt-ltb}
use Rattle.std.proofs.lemmas.Int.{ints}
use Rattle.std.proofs.lemmas.Bool.Decides.{nat_tests}
use mir.Val.{SFits}
use Rattle.filtering.specs.Window.{centred_of}
use Rattle.filtering.proofs.window.centred.Goals as goal

ahead : (k : ℕ) → k < 128 → to_z w8 k ≡ pos k
ahead k h = rw (lt-ltb k 128 h)

below : (m : ℕ) → m ≤ 127 → SFits w8 (neg_ℤ (pos m))
below zero h = record { sfits = omega arith }
below (suc m) h = record { sfits = omega arith }

behind : (m : ℕ) → m ≤ 127 → to_z w8 (of_z w8 (pos 0 -ℤ to_z w8 m)) ≡ neg_ℤ (pos m)
behind m h =
    let z : pos 0 -ℤ pos m ≡ neg_ℤ (pos m) = omega (arith, ints) in
    rw (ahead m (omega arith), z) (to_z-of_z (below m h))

pub returns-then-not-in_reach : goal.returns-then-not-in_reach
unfolding centred_of
returns-then-not-in_reach c = rw (sym c.in_reach.ensures ∙ c.if-not-in_reach.true)

pub returns : goal.returns
unfolding centred_of
returns c =
    let n = c.args.n in
    let t = sym c.in_reach.ensures ∙ c.if-not-in_reach.false in
    let most : n ≤ 31 = grind (arith, nat_tests) in
    rw (t, ahead (n / 2) (omega arith), behind (n - n / 2) (omega arith)) refl
