-- Sequences of calls after starting: the engine, and the reference machine of its filter.
-- Assumes nothing.
use Rattle.std.specs.Prelude.{ℕ, ◌%◌, not, List, [], ◌∷◌, map, leb, eqb, length, ℤ, pos}
use Rattle.layout.specs.declared.Table.{Table}
use Rattle.layout.specs.Answers.{asks, first_no, Left}
use Rattle.layout.specs.Measure.{delay_of}
use Rattle.rule.specs.Pixels.{pixel_of}
use Rattle.scan.specs.Calls.{World, row_of, close_of, step_of}
use Rattle.burst.specs.Bursts.{all_rows, no_rows, burst_of}
use Rattle.model.specs.Rows.{scanned}
use Rattle.model.specs.Machines.{Filter, Machine, machine_row}
use Rattle.model.specs.Machines.{Call as Single, row_call, close_call, step_call, out_of as out_of_single, answers as answers_single}

-- the filter of a table, over rows of l samples: the pixel rule
abbrev pub filter_of : Table → (l : ℕ) → Filter
filter_of t l = record { bits = t.b; width = l; delay = delay_of t; pixel = λ rows r c. pixel_of t (scanned l rows) (pos r) (pos c) }

-- a call: one of the model's (a row, closing, a closing step), or several rows together with the output that is lent to them
pub data Call : Type 0 where
  single : Single → Call
  rows_call : (rows : List ℕ) → (out : List ℤ) → Call

-- calls one row at a time
abbrev pub singles : List Single → List Call
singles = map single

-- the output lent to a call
unfoldable pub out_of : Call → List ℤ
out_of (single c) = out_of_single c
out_of (rows_call rows out) = out

-- the engine: what the contracts of the calls say
unfoldable pub engine : World → Call → Left World
engine w (single (row_call row out)) = row_of w row out
engine w (single close_call) = close_of w
engine w (single (step_call out)) = step_of w out
engine w (rows_call rows out) = burst_of w rows out

-- the machine takes several rows too: 15, 21 and 13, then the rows one by one
unfoldable pub machine_rows : Filter → Machine → (rows : List ℕ) → (out : List ℤ) → Left Machine
machine_rows f m rows out =
    first_no (asks 15 (not m.closed) ∷ asks 21 (eqb (length rows % f.width) 0) ∷ asks 13 (leb (length rows) (length out)) ∷ []) (no_rows m out)
    (all_rows (machine_row f) f.width m rows out)

-- what a call comes to
unfoldable pub answers : Filter → Machine → Call → Left Machine
answers f m (single c) = answers_single f m c
answers f m (rows_call rows out) = machine_rows f m rows out
