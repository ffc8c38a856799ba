-- Refusals: a closed machine, a full one, and a call refused with 14.
-- Assumes nothing.
use Prim.Native.Nat.{ℕ}
use native.Mathlib.Omega.{arith}
use mathlib.Core.Path.{◌≡◌, refl, ap, ◌∙◌}
use mathlib.Core.Bool.{true, false}
use mathlib.Core.List.{List}
use lib.IntN.{ℤ}
use lib.ListN.{length}
use borrow.Author.Tests.{le-ltb}
use Rattle.layout.specs.Answers.{Said, refused, Left, left}
use Rattle.model.specs.Machines.{Filter, Machine, machine_asks, machine_row}
use Rattle.model.specs.Refusals.{Refuses14}

-- Q1: a row to a closed machine is refused with 15
pub closed_refuses : (f : Filter) (m : Machine) → m.closed ≡ true → (row : List ℕ) (out : List ℤ)
    → machine_row f m row out ≡ left (refused 15 0) m out
unfolding machine_row machine_asks
closed_refuses f m e row out = rw e refl

-- Q8: where 65,535 rows are in, the next is refused with 16
pub full_refuses : (f : Filter) (m : Machine) → m.closed ≡ false → length m.rows ≡ 65535 → (row : List ℕ) (out : List ℤ)
    → machine_row f m row out ≡ left (refused 16 0) m out
unfolding machine_row machine_asks
full_refuses f m e n row out = rw (e, le-ltb (length m.rows) 65535 (omega arith)) refl

-- a call that leaves all as it was, and says 14
pub refuses : {W : Type 0} (x : Left W) (s : Said) (w : W) (lent : List ℤ) → s.kind ≡ 0 → s.number ≡ 14 → x ≡ left s w lent → Refuses14 x w lent
refuses x s w lent k n e =
    record { kind = ap (λ y. y.said.kind) e ∙ k; number = ap (λ y. y.said.number) e ∙ n; state = ap (λ y. y.state) e; out = ap (λ y. y.out) e }
