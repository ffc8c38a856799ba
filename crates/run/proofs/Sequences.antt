-- SEQ: the engine answers every list of calls as the machine does.
-- Assumes nothing.
use Prim.Native.Nat.{ℕ, ◌+◌, ◌*◌, ◌/◌, ◌%◌, ◌≤◌, ◌<◌}
use native.Mathlib.Omega.{arith}
use mathlib.Core.Path.{◌≡◌, refl, sym, ap, ◌∙◌, subst}
use mathlib.Core.Bool.{true, not}
use mathlib.Core.List.{List, [], ◌∷◌, ◌++◌}
use lib.Dec.{T, leb, eqb}
use lib.IntN.{ℤ, pos}
use lib.ListN.{length, get_or, length-append}
use borrow.Author.Tests.{le-leb}
use Rattle.arith.specs.All.{all}
use Rattle.arith.specs.Tab.{tab}
use Rattle.arith.proofs.Tabs.{length-tab, get_or-tab}
use Rattle.layout.specs.declared.Table.{Table}
use Rattle.layout.specs.Answers.{accepted, asks, Left}
use Rattle.layout.specs.Measure.{delay_of}
use Rattle.layout.specs.Sequences.{replies, ended}
use Rattle.layout.proofs.Questions.{AllYes, same_questions}
use Rattle.layout.proofs.Sequences.{simulates}
use Rattle.limits.specs.Limits.{acceptable}
use Rattle.rule.specs.Mended.{mended}
use Rattle.rule.specs.Questions.{width_good}
use Rattle.rule.proofs.Mended.{length-mended}
use Rattle.ring.specs.Ring.{Kept}
use Rattle.arrival.specs.Arrivals.{Arrival, stores_good, sum_good, due_good, arrival_asks, samples_after, sums_after}
use Rattle.scan.specs.declared.Scan.{Scan}
use Rattle.scan.specs.Calls.{World, world, agrees, lent_good, start_asks, start_of, arrival_of, due_said, taken_in}
use Rattle.scan.specs.Calls.{row_arrival, row_in, row_asks, row_of, shut, close_of, step_in, closing_of, step_of}
use Rattle.burst.specs.Bursts.{progress, all_rows, no_rows, burst_asks, burst_of}
use Rattle.model.specs.Rows.{scanned, good_rows}
use Rattle.model.specs.Machines.{Filter, row_call, close_call, step_call, Machine, opened, with_row, with_step}
use Rattle.model.specs.Machines.{due_left, machine_asks, machine_row, machine_close, machine_step, answers as answers_single}
use Rattle.model.proofs.Rows.{InFrame, rows_framed, row_at, below, more_agrees, more_above, last_row}
use Rattle.model.proofs.Agrees.{Agree, due_agrees, row_agrees, close_agrees, step_agrees}
use Rattle.model.proofs.Fair.{Fair, opened_fair, Known, row_known, row_fair, shut_fair, step_fair}
use Rattle.run.specs.Holds.{Starts, Stores}
use Rattle.run.specs.Sequences.{filter_of, Call, single, rows_call, engine, machine_rows, answers}
use Rattle.run.proofs.Arrives.{Finds}
use Rattle.run.proofs.Stores.{finds, all_good, due_good_lem, stores_next, output_is}
use Rattle.run.proofs.Starts.{stores_none, stores_agree}
use Rattle.run.proofs.Alike.{feed_alike, left_alike}

-- ---- the relation

-- the engine's state that a machine has
abbrev pub state_of : Table → (l : ℕ) → Machine → Scan
state_of t l m = record { table = t; width = l; rows = length m.rows; steps = m.steps; closed = m.closed }

-- the stores hold what the machine's arrivals leave
abbrev pub Holds : Table → (l : ℕ) → Machine → (samples sums : List ℕ) → Type 0
Holds t l m samples sums = Stores t l (scanned l m.rows) (length m.rows + m.steps) samples sums

-- the table and the width are such as starting accepts, the machine is fair, and the scan and the stores are what it has
pub record Follows (t : Table) (l : ℕ) (w : World) (m : Machine) : Type 0 where
  pub table : acceptable t ≡ true
  pub width : width_good l ≡ true
  pub fair : Fair (filter_of t l) m
  pub scan : w.scan ≡ state_of t l m
  pub stores : Holds t l m w.samples w.sums

-- what holds of the world with the machine's own state holds of every world that follows it
pub on_world : (t : Table) (l : ℕ) (w : World) (m : Machine) → Follows t l w m → (P : World → Type 0)
    → (Follows t l (world (state_of t l m) w.samples w.sums) m → P (world (state_of t l m) w.samples w.sums)) → P w
on_world t l w m r P k =
    subst (λ s. P (world s w.samples w.sums)) (sym r.scan)
    (k record { table = r.table; width = r.width; fair = r.fair; scan = refl; stores = r.stores })

-- ---- one call

module _ (t : Table) (l : ℕ) (m : Machine) (samples sums : List ℕ) (r : Follows t l (world (state_of t l m) samples sums) m) where
  abbrev f : Filter
  f = filter_of t l

  abbrev here : World
  here = world (state_of t l m) samples sums

  abbrev a : ℕ
  a = length m.rows + m.steps

  state_good : agrees (state_of t l m) ≡ true
  unfolding agrees
  state_good =
      let h = r.fair in
      rw (r.table, r.width, le-leb (length m.rows) 65535 h.few, le-leb m.steps (delay_of t) h.most, h.unstepped) refl

  lent_good_lem : (out : ℕ) → lent_good (state_of t l m) (length samples) (length sums) out ≡ leb l out
  unfolding lent_good stores_good
  lent_good_lem out = rw (le-leb _ _ r.stores.samples_long, le-leb _ _ r.stores.sums_long) refl

  close_case : Agree (Follows t l) (close_of here) (machine_close m)
  unfolding close_of
  close_case =
      rw state_good
      (close_agrees (Follows t l) f here m r (world (shut (state_of t l m)) samples sums)
      record { table = r.table; width = r.width; fair = shut_fair f m r.fair; scan = refl; stores = r.stores })

  -- an arrival of these rows
  module _ (rows : List (List ℕ)) (row : List ℕ) (out : List ℤ) (good : T (good_rows l t.b rows))
      (is : (c : ℕ) → c < l → get_or row c 0 ≡ scanned l rows (pos a) (pos c)) (found : Stores t l (scanned l rows) a samples sums) where
    abbrev v : Arrival
    v = arrival_of here row

    framed : InFrame l t.b (scanned l rows)
    framed = rows_framed l t.b rows good

    finds_it : Finds (scanned l rows) v
    finds_it = finds t l (scanned l rows) a row samples sums r.table framed is found

    -- 19 is never answered no, of the sums and of the row that is due
    says : all t.count (λ k. all l (sum_good v k)) ≡ true
    says = all_good t l (scanned l rows) a row samples sums r.table framed is found

    says_due_lem : due_good v ≡ true
    says_due_lem = due_good_lem t l (scanned l rows) a row samples sums r.table framed is found

    -- the machine after it, whichever it is
    arrives : (after : Scan) (after' : Machine) → Follows t l (world after (samples_after v) (sums_after v)) after'
        → Agree (Follows t l) (taken_in here after v out) (due_left f a rows out after')
    unfolding due_said
    arrives after after' k =
        due_agrees (Follows t l) f a rows out (taken_in here after v out) after' refl
        (output_is t l (scanned l rows) a row samples sums r.table framed is found out) k

    next : length row ≡ l → (n : ℕ) → a + 1 ≡ n → Stores t l (scanned l rows) n (samples_after v) (sums_after v)
    next long n e =
        subst (λ i. Stores t l (scanned l rows) i (samples_after v) (sums_after v)) e
        (stores_next t l (scanned l rows) a row samples sums r.table framed is found long)

  -- a row that the machine's questions accept
  module _ (row : List ℕ) (out : List ℤ) (y : AllYes (machine_asks f m row (length out))) where
    abbrev more : List (List ℕ)
    more = m.rows ++ (row ∷ [])

    known : Known f m row
    known = row_known f m r.fair row (length out) y

    at_row : a ≡ length m.rows
    at_row = let z = known.unstepped in omega arith

    is_last : (c : ℕ) → c < l → get_or (mended row) c 0 ≡ scanned l more (pos a) (pos c)
    is_last c q = last_row l t.b m.rows row r.fair.good known.long c q ∙ ap (λ k. scanned l more (pos k) (pos c)) (sym at_row)

    found_more : Stores t l (scanned l more) a samples sums
    found_more =
        stores_agree t l (scanned l m.rows) (scanned l more) a samples sums (more_above l t.b m.rows (row ∷ []) r.fair.good)
        (λ e j p. more_agrees l t.b m.rows (row ∷ []) r.fair.good e j (let z = known.unstepped in omega arith)) r.stores

    pub row_finds : Finds (scanned l more) (row_arrival here row)
    row_finds = finds_it more (mended row) out known.good is_last found_more

    row_never : all t.count (λ k. all l (sum_good (row_arrival here row) k)) ≡ true
    row_never = says more (mended row) out known.good is_last found_more

    row_due : due_good (row_arrival here row) ≡ true
    row_due = says_due_lem more (mended row) out known.good is_last found_more

    abbrev in_it : Left World
    in_it = taken_in here (row_in (state_of t l m)) (row_arrival here row) out

    taken : Agree (Follows t l) in_it (due_left f (length m.rows) more out (with_row m row))
    taken =
        let n : length more ≡ length m.rows + 1 = length-append m.rows (row ∷ []) in
        let long = length-mended row ∙ known.long in
        subst (λ i. Agree (Follows t l) in_it (due_left f i more out (with_row m row))) at_row
        (arrives more (mended row) out known.good is_last found_more (row_in (state_of t l m)) (with_row m row) record {
          table = r.table;
          width = r.width;
          fair = row_fair f m r.fair row known;
          scan = ap (λ (i : ℕ). record { table = t; width = l; rows = i; steps = m.steps; closed = m.closed }) (sym n);
          stores = next more (mended row) out known.good is_last found_more long (length more + m.steps) (omega arith);
        })

  row_case : (row : List ℕ) (out : List ℤ) → Agree (Follows t l) (row_of here row out) (machine_row f m row out)
  unfolding row_of row_asks arrival_asks machine_asks
  row_case row out =
      rw (state_good, lent_good_lem (length out))
      (row_agrees (Follows t l) f here m r row out _ (λ y. rw (row_never row out y, row_due row out y) (taken row out y)))

  -- a closing step of a closed machine with steps left
  module _ (out : List ℤ) (shuts : m.closed ≡ true) (h : m.steps < delay_of t) where
    abbrev zeros : List ℕ
    zeros = tab l (λ k. 0)

    is_dark : (c : ℕ) → c < l → get_or zeros c 0 ≡ scanned l m.rows (pos a) (pos c)
    is_dark c q = get_or-tab l (λ k. 0) c 0 q ∙ sym (below l t.b m.rows r.fair.good a c (omega arith))

    pub step_finds : Finds (scanned l m.rows) (closing_of here)
    step_finds = finds_it m.rows zeros out r.fair.good is_dark r.stores

    step_never : all t.count (λ k. all l (sum_good (closing_of here) k)) ≡ true
    step_never = says m.rows zeros out r.fair.good is_dark r.stores

    step_due : due_good (closing_of here) ≡ true
    step_due = says_due_lem m.rows zeros out r.fair.good is_dark r.stores

    stepped : Agree (Follows t l) (taken_in here (step_in (state_of t l m)) (closing_of here) out) (due_left f a m.rows out (with_step m))
    stepped =
        let long : length zeros ≡ l = length-tab l (λ k. 0) in
        arrives m.rows zeros out r.fair.good is_dark r.stores (step_in (state_of t l m)) (with_step m) record {
          table = r.table;
          width = r.width;
          fair = step_fair f m r.fair shuts h;
          scan = refl;
          stores = next m.rows zeros out r.fair.good is_dark r.stores long (length m.rows + (m.steps + 1)) (omega arith);
        }

  step_case : (out : List ℤ) → Agree (Follows t l) (step_of here out) (machine_step f m out)
  unfolding step_of arrival_asks
  step_case out =
      rw (state_good, lent_good_lem (length out))
      (step_agrees (Follows t l) f here m r out _ (λ c h. rw (step_never out c h, step_due out c h) (stepped out c h)))

-- ---- every call

module _ (t : Table) (l : ℕ) where
  abbrev mine : Filter
  mine = filter_of t l

  row_kept : (w : World) (m : Machine) (row : List ℕ) (out : List ℤ) → Follows t l w m
      → Agree (Follows t l) (row_of w row out) (machine_row mine m row out)
  row_kept w m row out r =
      on_world t l w m r (λ w. Agree (Follows t l) (row_of w row out) (machine_row mine m row out))
      (λ q. row_case t l m w.samples w.sums q row out)

  module _ (m : Machine) (samples sums : List ℕ) (r : Follows t l (world (state_of t l m) samples sums) m) where
    abbrev w : World
    w = world (state_of t l m) samples sums

    -- several rows
    rows_case : (rows : List ℕ) (out : List ℤ) → Agree (Follows t l) (burst_of w rows out) (machine_rows mine m rows out)
    unfolding burst_of burst_asks machine_rows
    rows_case rows out =
        rw (state_good t l m samples sums r)
        (same_questions (Agree (Follows t l))
        (asks 15 (not m.closed) ∷ asks 21 (eqb (length rows % l) 0) ∷ asks 13 (leb (length rows) (length out)) ∷ [])
        (no_rows w out) (all_rows row_of l w rows out) (no_rows m out) (all_rows (machine_row mine) l m rows out) (λ n p. (refl, r))
        (λ y. left_alike (Follows t l) row_of (machine_row mine) row_kept _ _
        (feed_alike (Follows t l) row_of (machine_row mine) row_kept l (length rows / l) rows (progress (accepted []) w out 0 0)
        (progress (accepted []) m out 0 0) record { said = refl; out = refl; taken = refl; filtered = refl; follows = r })))

    each_call : (c : Call) → Agree (Follows t l) (engine w c) (answers mine m c)
    unfolding engine answers answers_single
    each_call (single (row_call row out)) = row_case t l m samples sums r row out
    each_call (single close_call) = close_case t l m samples sums r
    each_call (single (step_call out)) = step_case t l m samples sums r out
    each_call (rows_call rows out) = rows_case rows out

  -- each call keeps the relation, and is answered alike
  pub kept : (w : World) (m : Machine) (c : Call) → Follows t l w m → Agree (Follows t l) (engine w c) (answers mine m c)
  kept w m c r = on_world t l w m r (λ w. Agree (Follows t l) (engine w c) (answers mine m c)) (λ q. each_call m w.samples w.sums q c)

-- M-101: while a row is one of the last 32 arrivals, the sample store keeps it mended
pub kept_mended : (t : Table) (l : ℕ) (w : World) (m : Machine) → Follows t l w m → (e c : ℕ) → e < length m.rows
    → length m.rows + m.steps ≤ e + 32 → c < l → get_or w.samples (e % 32 * l + c) 0 ≡ get_or (mended (get_or m.rows e [])) c 0
unfolding Kept
kept_mended t l w m r e c p near q = r.stores.kept e c (omega arith) near q ∙ sym (row_at l t.b m.rows r.fair.good e c p q)

-- ---- every list of calls

module _ (t : Table) (l : ℕ) (samples sums : List ℕ) (h : Starts t l samples sums) where
  -- starting is accepted
  pub begins : (start_of t l samples sums).said ≡ accepted []
  unfolding start_of start_asks
  begins = rw (h.table, h.width, h.stores) refl

  first : Follows t l (start_of t l samples sums).state opened
  unfolding start_of start_asks good_rows
  first =
      rw (h.table, h.width, h.stores) record {
        table = h.table;
        width = h.width;
        fair = opened_fair (filter_of t l);
        scan = refl;
        stores = stores_none t l (scanned l []) samples sums (rows_framed l t.b [] tt) h.stores;
      }

  both : (cs : List Call) → (replies engine (start_of t l samples sums).state cs ≡ replies (answers (filter_of t l)) opened cs)
      × Follows t l (ended engine (start_of t l samples sums).state cs) (ended (answers (filter_of t l)) opened cs)
  both cs = simulates engine (answers (filter_of t l)) (Follows t l) (kept t l) (start_of t l samples sums).state opened first cs

  -- SEQ. For every accepted table, width from 1 to 1,024, stores long enough, whatever they hold, and every list of calls after the start:
  -- what each call says, and what it leaves in its output, is what the machine of the table's filter says and leaves.
  pub sequence : (cs : List Call) → replies engine (start_of t l samples sums).state cs ≡ replies (answers (filter_of t l)) opened cs
  sequence cs = (both cs).0

  -- SEQ-stores. After every list of calls, refused ones mixed in, the scan counts what the machine keeps, the sample store holds the last
  -- 32 arrivals, and the sum store the column sums of the last.
  pub sequence_stores : (cs : List Call) → Follows t l (ended engine (start_of t l samples sums).state cs) (ended (answers (filter_of t l)) opened cs)
  sequence_stores cs = (both cs).1
