-- What the questions before 19 tell: a row or a closing step that passes them arrives.
-- Assumes nothing.
use Rattle.std.proofs.Common.{ℕ, ◌≤◌, arith, ◌≡◌, true, List, [], length, eqb-true}
use Rattle.layout.specs.Answers.{accepted, verdict}
use Rattle.layout.proofs.Questions.{all_yes}
use Rattle.rule.proofs.Asked.{width_bounds}
use Rattle.arrival.specs.Arrivals.{Fits}
use Rattle.arrival.proofs.Asked.{lent_bounds}
use Rattle.arrival.proofs.Delays.{delay_most}
use Rattle.scan.specs.declared.Scan.{Scan}
use Rattle.scan.specs.Calls.{World, agrees, lent_good, arrival_of, row_asks}
use Rattle.scan.proofs.States.{agreed}

-- the numbers of a state that agrees
pub counts : (s : Scan) → agrees s ≡ true → (s.rows ≤ 65535) × (s.steps ≤ 15)
counts s e =
    let a = agreed s e in
    let d = delay_most s.table a.table in
    let r = a.steps in
    (a.rows, omega arith)

-- a row of the width, and stores that are long enough: an arrival
pub arrives : (w : World) (row : List ℕ) (out : ℕ) → agrees w.scan ≡ true → length row ≡ w.scan.width
    → lent_good w.scan (length w.samples) (length w.sums) out ≡ true → Fits (arrival_of w row) out
unfolding lent_good
arrives w row out e long lent =
    let s = w.scan in
    let a = agreed s e in
    let n = counts s e in
    let b = lent_bounds s.width s.table.count (length w.samples) (length w.sums) out lent in
    record {
      table = a.table;
      width_most = (width_bounds a.width).1;
      number_most = omega arith;
      long = long;
      samples_long = b.0;
      sums_long = b.1;
      lent = b.2;
    }

-- a row that the questions before 19 accept
pub record Asked (s : Scan) (row samples sums out : ℕ) : Type 0 where
  pub state : agrees s ≡ true
  pub long : row ≡ s.width
  pub lent : lent_good s samples sums out ≡ true

pub asked : (s : Scan) (row : List ℕ) (samples sums out : ℕ) → verdict (row_asks s row samples sums out) ≡ accepted [] → Asked s (length row) samples sums out
unfolding row_asks
asked s row samples sums out e =
    let y = all_yes (row_asks s row samples sums out) e in
    record { state = y.0; long = eqb-true (length row) s.width y.1.1.1.0; lent = y.1.1.1.1.0 }
