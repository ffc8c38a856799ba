-- What a row and a closing step leave, by what their arrival leaves.
-- Assumes nothing.
use Rattle.std.proofs.Common.{◌≡◌, refl, sym, ap, ◌∙◌, ℕ, [], List, ℤ, length, Result}
use Rattle.std.proofs.Common.{◌≤◌, ◌-◌, subst, take, replicate}
use native.Mathlib.Omega.{arith}
use Rattle.arith.specs.Tab.{tab}
use Rattle.arith.proofs.Parts.{zeros_part}
use Rattle.layout.specs.declared.asking.Refusal.{Refusal}
use Rattle.layout.specs.Answers.{refused, accepted, first_no, verdict, said, Left, left}
use Rattle.layout.proofs.Questions.{first_map, on_verdict}
use Rattle.rule.specs.Mended.{mended}
use Rattle.machine.specs.declared.Arrival.{Arrival}
use Rattle.machine.specs.declared.State.{State}
use Rattle.machine.specs.Rules.{Rules, taken_of}
use Rattle.machine.specs.Calls.{Machine, machine, due_said, taken_in, row_in, row_arrival, row_asks, row_of}
use Rattle.machine.proofs.Goods.{first_after}

-- what a call leaves of what its arrival left: the scan before it where it is refused, else the one after it
abbrev pub moved : {F : Type 0} → Rules F → Machine F → (after : State) → Left F → Left (Machine F)
moved r m after x =
    on_verdict x.said (λ n p. left (refused n p) (machine m.state x.state) x.out) (left (due_said r m) (machine after x.state) x.out)

pub moved_by : {F : Type 0} (r : Rules F) (m : Machine F) (after : State) (a : Arrival) (row : List ℕ) (out : List ℤ)
    → {x : Left F} → x ≡ taken_of r m.filter a row out
    → moved r m after x ≡ first_no (r.arrival_asks m.filter a row) (λ n p. left (refused n p) m out) (taken_in r m after a row out)
moved_by r m after a row out e = ap (moved r m after) e ∙ first_map (moved r m after) (r.arrival_asks m.filter a row) _ _

-- a row that passed the questions before the filter's
pub row_moves : {F : Type 0} (r : Rules F) (m : Machine F) (row : List ℕ) (out : List ℤ) (v : Result (Unit {0}) Refusal)
    → said v ≡ verdict (row_asks r m row (length out)) → said v ≡ accepted []
    → {x : Left F} → x ≡ taken_of r m.filter (row_arrival m.state) (mended row) out → moved r m (row_in m.state) x ≡ row_of r m row out
row_moves r m row out v e accept q =
    moved_by r m (row_in m.state) (row_arrival m.state) (mended row) out q
    ∙ sym (first_after (row_asks r m row (length out)) (r.arrival_asks m.filter (row_arrival m.state) (mended row)) (λ n p. left (refused n p) m out)
    (taken_in r m (row_in m.state) (row_arrival m.state) (mended row) out) v e ∙ rw accept refl)

-- the line of zeros of a closing step
pub zeros_line : (l : ℕ) → l ≤ 1024 → take {A = ℕ} l (replicate 1024 0) ≡ tab l (λ k. 0)
zeros_line l h =
    let e : l - 0 ≡ l = omega arith in
    subst (λ n. take {A = ℕ} n (replicate 1024 0) ≡ tab l (λ k. 0)) e (zeros_part l 1024 h)
