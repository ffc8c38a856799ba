-- A whole scan: demands 1 and 2, from its start to its end; and the rows in order, each once.
-- Assumes nothing.
use Prim.Native.Nat.{ℕ, ◌≤◌}
use mathlib.Core.Path.{◌≡◌, ap, ◌∙◌}
use mathlib.Core.List.{List, []}
use lib.Dec.{T}
use lib.IntN.{ℤ, pos}
use lib.ListN.{length}
use Rattle.arith.specs.Tab.{tab}
use Rattle.layout.specs.declared.Table.{Table}
use Rattle.layout.specs.Answers.{accepted}
use Rattle.layout.specs.Sequences.{replies, ended}
use Rattle.scan.specs.Calls.{start_of}
use Rattle.model.specs.Rows.{good_rows}
use Rattle.model.specs.Machines.{Call as Single, opened, answers as answers_single}
use Rattle.model.specs.Wholes.{whole_calls, whole_replies, numbers_of, rows_out}
use Rattle.model.proofs.Wholes.{machine_whole}
use Rattle.model.proofs.Numbers.{in_order, whole_in_order}
use Rattle.model.proofs.Singles.{replies_inside}
use Rattle.run.specs.Holds.{Starts}
use Rattle.run.specs.Sequences.{filter_of, single, singles, engine, answers}
use Rattle.run.proofs.Later.{settled}
use Rattle.run.proofs.Sequences.{begins, sequence}

module _ (t : Table) (l : ℕ) (samples sums : List ℕ) (s : Starts t l samples sums) where
  -- calls one row at a time are answered as by the model
  one_by_one : (cs : List Single) → replies engine (start_of t l samples sums).state (singles cs) ≡ replies (answers_single (filter_of t l)) opened cs
  unfolding answers
  one_by_one cs = sequence t l samples sums s (singles cs) ∙ replies_inside (answers (filter_of t l)) single opened cs

  -- SEQ-rows. For every list of calls one row at a time, refused ones mixed in, the numbers of the rows that come out are 0, 1, 2 and so on,
  -- each once and in order, up to the number of arrivals less D.
  pub rows_in_order : (cs : List Single)
      → numbers_of (replies engine (start_of t l samples sums).state (singles cs))
      ≡ tab (rows_out (filter_of t l) (ended (answers_single (filter_of t l)) opened cs)) pos
  rows_in_order cs = ap numbers_of (one_by_one cs) ∙ in_order (filter_of t l) cs

  module _ (outs : ℕ → List ℤ) (long : (a : ℕ) → l ≤ length (outs a)) (rows : List (List ℕ)) (h : T (good_rows l t.b rows))
      (few : length rows ≤ 65535) where
    -- Demands 1 and 2 over a whole scan, Q1 to Q3 and Q5. For every table that loading accepts, every width from 1 to 1,024, every pair of
    -- stores long enough, whatever they hold, every list of at most 65,535 rows of L samples of b bits or dead, and outputs of at least L places:
    -- starting is accepted, and every row, the closing and every closing step is answered as it is due: waiting before arrival D, and row a - D
    -- at each arrival a from then on, each pixel the pixel rule's on the whole scan; after D steps the answer is done.
    pub whole_scan :
        ((start_of t l samples sums).said ≡ accepted [])
        × (replies engine (start_of t l samples sums).state (singles (whole_calls (filter_of t l) outs rows)) ≡ whole_replies (filter_of t l) outs rows)
    whole_scan = (
      begins t l samples sums s,
      one_by_one (whole_calls (filter_of t l) outs rows) ∙ machine_whole (filter_of t l) (settled t l) outs long rows h few,
    )

    -- a whole scan of H rows gives the rows 0 to H - 1
    pub whole_rows :
        numbers_of (replies engine (start_of t l samples sums).state (singles (whole_calls (filter_of t l) outs rows))) ≡ tab (length rows) pos
    whole_rows = ap numbers_of (one_by_one (whole_calls (filter_of t l) outs rows)) ∙ whole_in_order (filter_of t l) (settled t l) outs long rows h few
