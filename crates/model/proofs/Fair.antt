-- A machine that the rules allow, and that every call leaves it so.
-- Assumes nothing.
use Prim.Native.Nat.{ℕ, ◌≤◌, ◌<◌, zero-le}
use native.Mathlib.Omega.{arith}
use mathlib.Core.Path.{◌≡◌, refl}
use mathlib.Core.Bool.{true, cond}
use mathlib.Core.List.{List, [], ◌∷◌, ◌++◌}
use lib.Dec.{T, eqb}
use lib.ListN.{length, length-append}
use borrow.Author.Tests.{ltb-true, eqb-true, not-true}
use Rattle.layout.proofs.Questions.{AllYes}
use Rattle.model.specs.Rows.{good_rows}
use Rattle.model.specs.Machines.{Filter, Machine, opened, machine_asks, with_row, shut_down, with_step}
use Rattle.model.proofs.Rows.{good_append, good_one}

-- its rows are good and at most 65,535, its steps at most D, and none while it is open
pub record Fair (f : Filter) (m : Machine) : Type 0 where
  pub good : T (good_rows f.width f.bits m.rows)
  pub few : length m.rows ≤ 65535
  pub most : m.steps ≤ f.delay
  pub unstepped : cond m.closed true (eqb m.steps 0) ≡ true

pub opened_fair : (f : Filter) → Fair f opened
unfolding good_rows
opened_fair f = record { good = tt; few = zero-le; most = zero-le; unstepped = refl }

-- what is known of a row whose questions are all answered yes
pub record Known (f : Filter) (m : Machine) (row : List ℕ) : Type 0 where
  pub unstepped : m.steps ≡ 0
  pub less : length m.rows < 65535
  pub long : length row ≡ f.width
  pub good : T (good_rows f.width f.bits (m.rows ++ (row ∷ [])))

module _ (f : Filter) (m : Machine) (h : Fair f m) where
  pub row_known : (row : List ℕ) (out : ℕ) → AllYes (machine_asks f m row out) → Known f m row
  unfolding machine_asks
  row_known row out y =
      let z : eqb m.steps 0 ≡ true = rw (not-true m.closed y.0) at h.unstepped in
      record {
        unstepped = eqb-true m.steps 0 z;
        less = ltb-true (length m.rows) 65535 y.1.0;
        long = eqb-true (length row) f.width y.1.1.0;
        good = good_append f.width f.bits m.rows (row ∷ []) h.good (good_one f.width f.bits row y.1.1.0 y.1.1.1.1.0);
      }

  -- with one row more, closed, and with one step more
  pub row_fair : (row : List ℕ) → Known f m row → Fair f (with_row m row)
  row_fair row k =
      let n = length-append m.rows (row ∷ []) in
      let p = k.less in
      record { good = k.good; few = omega arith; most = h.most; unstepped = h.unstepped }

  pub shut_fair : Fair f (shut_down m)
  shut_fair = record { good = h.good; few = h.few; most = h.most; unstepped = refl }

  pub step_fair : m.closed ≡ true → m.steps < f.delay → Fair f (with_step m)
  step_fair c p = record { good = h.good; few = h.few; most = omega arith; unstepped = rw c refl }
