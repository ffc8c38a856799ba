-- A whole ranked scan: demands 1 and 2, from its start to its end; the rows in order, each once; and what a refused start hands out.
-- Assumes nothing.
use Prim.Native.Nat.{ℕ, ◌≤◌}
use native.Mathlib.Omega.{arith}
use mathlib.Core.Path.{◌≡◌, refl, ap, ◌∙◌}
use mathlib.Core.Bool.{Bool, true, false, ◌&&◌}
use mathlib.Core.List.{List, []}
use lib.Dec.{T}
use lib.IntN.{ℤ, pos}
use lib.ListN.{length}
use Rattle.arith.specs.Tab.{tab}
use Rattle.layout.specs.Answers.{refused, accepted, Left}
use Rattle.layout.specs.Sequences.{replies, ended}
use Rattle.layout.proofs.Questions.{each_way}
use Rattle.rule.specs.Questions.{width_good}
use Rattle.model.specs.Rows.{good_rows}
use Rattle.model.specs.Machines.{Call, row_call, close_call, step_call, out_of, opened, answers}
use Rattle.model.specs.Wholes.{whole_calls, whole_replies, numbers_of, rows_out}
use Rattle.model.specs.Refusals.{Refuses14}
use Rattle.model.proofs.Wholes.{machine_whole}
use Rattle.model.proofs.Numbers.{in_order, whole_in_order}
use Rattle.model.proofs.Refusals.{refuses}
use Rattle.rank.specs.declared.Window.{Window}
use Rattle.rank.specs.Calls.{World, world, window_good, agrees, fresh, start_asks, start_of, row_asks, row_of, close_of, step_of}
use Rattle.rankrun.specs.Holds.{Setting, Starts}
use Rattle.rankrun.specs.Sequences.{filter_of, engine}
use Rattle.rankrun.proofs.Later.{settled}
use Rattle.rankrun.proofs.Sequences.{started, begins, sequence}

module _ (q : Setting) (samples counts windows : List ℕ) (s : Starts q samples counts windows) where
  -- for every list of calls, refused ones mixed in, the numbers of the rows that come out are 0, 1, 2 and so on, each once and in order, up to the
  -- number of arrivals less D
  pub rows_in_order : (cs : List Call)
      → numbers_of (replies engine (started q samples counts windows s).state cs) ≡ tab (rows_out (filter_of q) (ended (answers (filter_of q)) opened cs)) pos
  rows_in_order cs = ap numbers_of (sequence q samples counts windows s cs) ∙ in_order (filter_of q) cs

  module _ (outs : ℕ → List ℤ) (long : (a : ℕ) → q.width ≤ length (outs a)) (rows : List (List ℕ)) (h : T (good_rows q.width q.b rows))
      (few : length rows ≤ 65535) where
    -- M102-5. For every b from 1 to 8, every window within the limits, every R from 1 to M·N, every width from 1 to 1,024, stores long enough, whatever
    -- they hold, every list of at most 65,535 rows of L samples of b bits or dead, and outputs of at least L places: starting is accepted, and every row,
    -- the closing and every closing step is answered as it is due: waiting before arrival D, and row a - D at each arrival a from then on, each pixel the
    -- rule's on the whole scan; after D steps the answer is done.
    pub whole_scan :
        ((started q samples counts windows s).said ≡ accepted [])
        × (replies engine (started q samples counts windows s).state (whole_calls (filter_of q) outs rows) ≡ whole_replies (filter_of q) outs rows)
    whole_scan = (
      begins q samples counts windows s,
      sequence q samples counts windows s (whole_calls (filter_of q) outs rows) ∙ machine_whole (filter_of q) (settled q) outs long rows h few,
    )

    -- a whole scan of H rows gives the rows 0 to H - 1
    pub whole_rows : numbers_of (replies engine (started q samples counts windows s).state (whole_calls (filter_of q) outs rows)) ≡ tab (length rows) pos
    whole_rows =
        ap numbers_of (sequence q samples counts windows s (whole_calls (filter_of q) outs rows)) ∙ whole_in_order (filter_of q) (settled q) outs long rows h few

-- ---- a state that does not agree

abbrev Refuses : World → Call → Type 0
Refuses w c = Refuses14 (engine w c) w (out_of c)

-- every call on it is refused with 14, and changes nothing
pub disagreeing : (w : World) → agrees w.scan ≡ false → (c : Call) → Refuses w c
unfolding engine out_of row_of row_asks close_of step_of
disagreeing w e (row_call row out) = refuses _ (refused 14 0) w out refl refl (rw e refl)
disagreeing w e close_call = refuses _ (refused 14 0) w [] refl refl (rw e refl)
disagreeing w e (step_call out) = refuses _ (refused 14 0) w out refl refl (rw e refl)

no_width : (b : ℕ) (window : Window) (rank : ℕ) → agrees (fresh b window rank 0) ≡ false
unfolding agrees width_good
no_width b window rank = go (window_good window b rank)
  where
    go : (g : Bool) → (g && false) ≡ false
    go true = refl
    go false = refl

-- so with the scan of a refused start
pub refused_start : (b : ℕ) (window : Window) (rank l : ℕ) (samples counts windows : List ℕ) (n p : ℕ)
    → (start_of b window rank l samples counts windows).said ≡ refused n p → (c : Call) → Refuses (start_of b window rank l samples counts windows).state c
unfolding start_of
refused_start b window rank l samples counts windows n p =
    each_way (λ (x : Left World). x.said ≡ refused n p → (c : Call) → Refuses x.state c) (start_asks b window rank l (length samples) (length counts) (length windows)) _ _
    (λ i j e. disagreeing (world (fresh b window rank 0) samples counts windows) (no_width b window rank))
    (λ y e c. absurd (let z : ◌≡◌ {A = ℕ} 1 0 = ap (λ s. s.kind) e in omega arith))
