-- W3: the sums that the engine carries fit their words after each of their two steps, at every arrival of every sequence.
-- Assumes nothing.
use Prim.Native.Nat.{ℕ, ◌+◌, ◌-◌, ◌<◌}
use mathlib.Core.Path.{◌≡◌, ap₂}
use mathlib.Core.Bool.{true}
use mathlib.Core.List.{List, [], ◌∷◌, ◌++◌}
use lib.IntN.{ℤ}
use lib.ListN.{length}
use Rattle.layout.specs.declared.Table.{Table}
use Rattle.layout.specs.Measure.{delay_of}
use Rattle.layout.specs.Sequences.{ended}
use Rattle.layout.proofs.Questions.{AllYes}
use Rattle.rule.specs.Sums.{Image}
use Rattle.rule.specs.Steps.{column_less, column_next, leaving_sample, entering_sample}
use Rattle.rule.proofs.Steps.{steps_fit}
use Rattle.arrival.specs.Arrivals.{Arrival, new_sum}
use Rattle.scan.specs.Calls.{World, start_of, row_arrival, closing_of}
use Rattle.model.specs.Rows.{scanned}
use Rattle.model.specs.Machines.{Machine, opened, machine_asks}
use Rattle.run.specs.Holds.{Starts}
use Rattle.run.specs.Words.{CarriedWords}
use Rattle.run.specs.Sequences.{filter_of, Call, engine, answers}
use Rattle.run.proofs.Arrives.{Finds, leaving_is, entering_is}
use Rattle.run.proofs.Sequences.{Follows, on_world, row_finds, step_finds, sequence_stores}

-- one arrival
carried : (x : Image) (v : Arrival) → Finds x v → CarriedWords x v
unfolding new_sum column_less column_next leaving_sample entering_sample
carried x v f =
    record {
      less_is = λ k c h i. ap₂ ◌-◌ (f.sums k c h i) (leaving_is x v f k h c i);
      next_is = λ k c h i. ap₂ ◌+◌ (ap₂ ◌-◌ (f.sums k c h i) (leaving_is x v f k h c i)) (entering_is x v f k h c i);
      words = λ k h. steps_fit v.table f.table f.framed.bits k h;
    }

module _ (t : Table) (l : ℕ) (samples sums : List ℕ) (s : Starts t l samples sums) (cs : List Call) where
  abbrev w : World
  w = ended engine (start_of t l samples sums).state cs

  abbrev m : Machine
  m = ended (answers (filter_of t l)) opened cs

  r : Follows t l w m
  r = sequence_stores t l samples sums s cs

  -- a row that is taken after any calls
  pub row_words : (row : List ℕ) (out : List ℤ) → AllYes (machine_asks (filter_of t l) m row (length out))
      → CarriedWords (scanned l (m.rows ++ (row ∷ []))) (row_arrival w row)
  row_words row out y =
      on_world t l w m r (λ w. CarriedWords (scanned l (m.rows ++ (row ∷ []))) (row_arrival w row))
      (λ q. carried _ _ (row_finds t l m w.samples w.sums q row out y))

  -- a closing step that is taken after any calls
  pub step_words : (out : List ℤ) → m.closed ≡ true → m.steps < delay_of t → CarriedWords (scanned l m.rows) (closing_of w)
  step_words out c h =
      on_world t l w m r (λ w. CarriedWords (scanned l m.rows) (closing_of w))
      (λ q. carried _ _ (step_finds t l m w.samples w.sums q out c h))
