-- SEQ of a ranked window: its engine answers every list of calls as the machine does.
-- Assumes nothing.
use Prim.Native.Nat.{ℕ, ◌+◌, ◌*◌, ◌%◌, ◌≤◌, ◌<◌}
use native.Mathlib.Omega.{arith}
use mathlib.Core.Path.{◌≡◌, refl, sym, ap, ◌∙◌, subst}
use mathlib.Core.Bool.{true}
use mathlib.Core.List.{List, [], ◌∷◌, ◌++◌}
use lib.Dec.{T, leb}
use lib.IntN.{ℤ, pos}
use lib.ListN.{length, get_or, length-append}
use borrow.Author.Tests.{le-leb}
use Rattle.arith.specs.All.{all}
use Rattle.arith.specs.Tab.{tab, zeroed}
use Rattle.arith.proofs.Tabs.{length-tab, get_or-tab}
use Rattle.layout.specs.Answers.{accepted, Left}
use Rattle.layout.specs.Sequences.{replies, ended}
use Rattle.layout.proofs.Questions.{AllYes}
use Rattle.layout.proofs.Sequences.{simulates}
use Rattle.rule.specs.Mended.{mended}
use Rattle.rule.specs.Questions.{width_good}
use Rattle.rule.proofs.Mended.{length-mended}
use Rattle.ring.specs.Ring.{Kept}
use Rattle.model.specs.Rows.{scanned, good_rows}
use Rattle.model.specs.Machines.{Filter, Call, row_call, close_call, step_call, Machine, opened, with_row, with_step}
use Rattle.model.specs.Machines.{due_left, machine_asks, machine_row, machine_close, machine_step, answers}
use Rattle.model.proofs.Rows.{rows_framed, row_at, below, last_row}
use Rattle.model.proofs.Agrees.{Agree, due_agrees, row_agrees, close_agrees, step_agrees}
use Rattle.model.proofs.Fair.{Fair, opened_fair, Known, row_known, row_fair, shut_fair, step_fair}
use Rattle.histograms.specs.Arrivals.{Counting, counting, good_at, arrival_asks, samples_after, counts_after}
use Rattle.rank.specs.declared.RankScan.{RankScan}
use Rattle.rank.specs.Calls.{World, world, rank_delay, window_good, agrees, stores_good, lent_good, start_asks, start_of, arrival_of, due_said, taken_in}
use Rattle.rank.specs.Calls.{row_arrival, row_in, row_asks, row_of, shut, close_of, step_in, closing_of, step_of}
use Rattle.rank.proofs.States.{Windowed, windowed, bits_most}
use Rattle.rankrun.specs.Holds.{Setting, Starts, Stores}
use Rattle.rankrun.specs.Sequences.{strip_of, filter_of, engine}
use Rattle.rankrun.proofs.Stores.{all_good, stores_none, stores_agree, stores_next, output_is}
use Rattle.rankrun.proofs.Later.{taken_alike, above_alike}

-- ---- the relation

-- the engine's state that a machine has
abbrev pub state_of : Setting → Machine → RankScan
state_of q m =
    record { window = q.window; b = q.b; rank = q.rank; width = q.width; rows = length m.rows; steps = m.steps; closed = m.closed }

-- the stores hold what the machine's arrivals leave
abbrev pub Holds : Setting → Machine → (samples counts windows : List ℕ) → Type 0
Holds q m = Stores q (strip_of q.width m.rows) (length m.rows + m.steps)

-- the setting is such as starting accepts, the machine is fair, and the scan and the stores are what it has
pub record Follows (q : Setting) (w : World) (m : Machine) : Type 0 where
  pub window : window_good q.window q.b q.rank ≡ true
  pub width : width_good q.width ≡ true
  pub fair : Fair (filter_of q) m
  pub scan : w.scan ≡ state_of q m
  pub stores : Holds q m w.samples w.counts w.windows

-- what holds of the world with the machine's own state holds of every world that follows it
on_world : (q : Setting) (w : World) (m : Machine) → Follows q w m → (P : World → Type 0)
    → (Follows q (world (state_of q m) w.samples w.counts w.windows) m → P (world (state_of q m) w.samples w.counts w.windows)) → P w
on_world q w m r P k =
    subst (λ s. P (world s w.samples w.counts w.windows)) (sym r.scan)
    (k record { window = r.window; width = r.width; fair = r.fair; scan = refl; stores = r.stores })

-- ---- one call

module _ (q : Setting) (m : Machine) (samples counts windows : List ℕ) (r : Follows q (world (state_of q m) samples counts windows) m) where
  abbrev f : Filter
  f = filter_of q

  abbrev l : ℕ
  l = q.width

  abbrev here : World
  here = world (state_of q m) samples counts windows

  abbrev a : ℕ
  a = length m.rows + m.steps

  wins : Windowed q.window q.b q.rank
  wins = windowed q.window q.b q.rank r.window

  state_good : agrees (state_of q m) ≡ true
  unfolding agrees
  state_good =
      let h = r.fair in
      rw (r.window, r.width, le-leb (length m.rows) 65535 h.few, le-leb m.steps (rank_delay (state_of q m)) h.most, h.unstepped) refl

  lent_good_lem : (out : ℕ) → lent_good (state_of q m) (length samples) (length counts) (length windows) out ≡ leb l out
  unfolding lent_good stores_good
  lent_good_lem out = rw (le-leb _ _ r.stores.samples_long, le-leb _ _ r.stores.counts_long, le-leb _ _ r.stores.windows_long) refl

  close_case : Agree (Follows q) (close_of here) (machine_close m)
  unfolding close_of
  close_case =
      rw state_good
      (close_agrees (Follows q) f here m r (world (shut (state_of q m)) samples counts windows)
      record { window = r.window; width = r.width; fair = shut_fair f m r.fair; scan = refl; stores = r.stores })

  -- an arrival with these rows given
  module _ (rows : List (List ℕ)) (row : List ℕ) (out : List ℤ) (good : T (good_rows l q.b rows))
      (is : (c : ℕ) → c < l → get_or row c 0 ≡ scanned l rows (pos a) (pos c)) (found : Stores q (strip_of l rows) a samples counts windows) where
    abbrev v : Counting
    v = counting (arrival_of (state_of q m) (length rows)) row samples counts

    -- 19 is never answered no
    says : all l (good_at v) ≡ true
    says = all_good q (scanned l rows) a (length rows) row samples counts windows wins.rect (bits_most wins) (rows_framed l q.b rows good) is found

    -- the machine after it, whichever it is
    arrives : (after : RankScan) (after' : Machine) → Follows q (world after (samples_after v) (counts_after v) (zeroed 256 windows)) after'
        → Agree (Follows q) (taken_in here after v out) (due_left f a rows out after')
    unfolding due_said
    arrives after after' k =
        due_agrees (Follows q) f a rows out (taken_in here after v out) after' refl
        (output_is q (scanned l rows) a (length rows) row samples counts windows wins.rect (bits_most wins) (rows_framed l q.b rows good) is found out) k

    next : length row ≡ l → (n : ℕ) → a + 1 ≡ n → Stores q (strip_of l rows) n (samples_after v) (counts_after v) (zeroed 256 windows)
    next long n e =
        subst (λ i. Stores q (strip_of l rows) i (samples_after v) (counts_after v) (zeroed 256 windows)) e
        (stores_next q (scanned l rows) a (length rows) row samples counts windows wins.rect (bits_most wins) (rows_framed l q.b rows good) is found long)

  -- a row that the machine's questions accept
  module _ (row : List ℕ) (out : List ℤ) (y : AllYes (machine_asks f m row (length out))) where
    abbrev more : List (List ℕ)
    more = m.rows ++ (row ∷ [])

    known : Known f m row
    known = row_known f m r.fair row (length out) y

    at_row : a ≡ length m.rows
    at_row = let z = known.unstepped in omega arith

    one_more : length more ≡ length m.rows + 1
    one_more = length-append m.rows (row ∷ [])

    is_last : (c : ℕ) → c < l → get_or (mended row) c 0 ≡ scanned l more (pos a) (pos c)
    is_last c p = last_row l q.b m.rows row r.fair.good known.long c p ∙ ap (λ k. scanned l more (pos k) (pos c)) (sym at_row)

    found_more : Stores q (strip_of l more) a samples counts windows
    found_more =
        stores_agree q (strip_of l m.rows) (strip_of l more) a samples counts windows (above_alike l q.b m.rows (row ∷ []) r.fair.good)
        (λ e p. taken_alike l q.b m.rows (row ∷ []) r.fair.good e (let z = known.unstepped in omega arith)) r.stores

    -- the row that arrives is one of the rows given
    given_more : counting (arrival_of (state_of q m) (length more)) (mended row) samples counts ≡ row_arrival here row
    given_more = ap (λ g. counting (arrival_of (state_of q m) g) (mended row) samples counts) one_more

    row_never : all l (good_at (row_arrival here row)) ≡ true
    row_never = subst (λ v. all l (good_at v) ≡ true) given_more (says more (mended row) out known.good is_last found_more)

    taken : Agree (Follows q) (taken_in here (row_in (state_of q m)) (row_arrival here row) out) (due_left f (length m.rows) more out (with_row m row))
    taken =
        let long = length-mended row ∙ known.long in
        let n = one_more in
        subst (λ v. Agree (Follows q) (taken_in here (row_in (state_of q m)) v out) (due_left f (length m.rows) more out (with_row m row))) given_more
        (subst (λ i. Agree (Follows q) (taken_in here (row_in (state_of q m)) (counting (arrival_of (state_of q m) (length more)) (mended row) samples counts) out) (due_left f i more out (with_row m row))) at_row
        (arrives more (mended row) out known.good is_last found_more (row_in (state_of q m)) (with_row m row) record {
          window = r.window;
          width = r.width;
          fair = row_fair f m r.fair row known;
          scan = ap (λ (i : ℕ). record { window = q.window; b = q.b; rank = q.rank; width = l; rows = i; steps = m.steps; closed = m.closed }) (sym n);
          stores = next more (mended row) out known.good is_last found_more long (length more + m.steps) (omega arith);
        }))

  row_case : (row : List ℕ) (out : List ℤ) → Agree (Follows q) (row_of here row out) (machine_row f m row out)
  unfolding row_of row_asks arrival_asks machine_asks
  row_case row out =
      rw (state_good, lent_good_lem (length out)) (row_agrees (Follows q) f here m r row out _ (λ y. rw (row_never row out y) (taken row out y)))

  -- a closing step of a closed machine with steps left
  module _ (out : List ℤ) (shuts : m.closed ≡ true) (h : m.steps < rank_delay (state_of q m)) where
    abbrev zeros : List ℕ
    zeros = tab l (λ k. 0)

    is_dark : (c : ℕ) → c < l → get_or zeros c 0 ≡ scanned l m.rows (pos a) (pos c)
    is_dark c p = get_or-tab l (λ k. 0) c 0 p ∙ sym (below l q.b m.rows r.fair.good a c (omega arith))

    step_never : all l (good_at (closing_of here)) ≡ true
    step_never = says m.rows zeros out r.fair.good is_dark r.stores

    stepped : Agree (Follows q) (taken_in here (step_in (state_of q m)) (closing_of here) out) (due_left f a m.rows out (with_step m))
    stepped =
        let long : length zeros ≡ l = length-tab l (λ k. 0) in
        arrives m.rows zeros out r.fair.good is_dark r.stores (step_in (state_of q m)) (with_step m) record {
          window = r.window;
          width = r.width;
          fair = step_fair f m r.fair shuts h;
          scan = refl;
          stores = next m.rows zeros out r.fair.good is_dark r.stores long (length m.rows + (m.steps + 1)) (omega arith);
        }

  step_case : (out : List ℤ) → Agree (Follows q) (step_of here out) (machine_step f m out)
  unfolding step_of arrival_asks
  step_case out =
      rw (state_good, lent_good_lem (length out)) (step_agrees (Follows q) f here m r out _ (λ c h. rw (step_never out c h) (stepped out c h)))

  each_call : (c : Call) → Agree (Follows q) (engine here c) (answers f m c)
  unfolding engine answers
  each_call (row_call row out) = row_case row out
  each_call close_call = close_case
  each_call (step_call out) = step_case out

-- each call keeps the relation, and is answered alike
kept : (q : Setting) (w : World) (m : Machine) (c : Call) → Follows q w m → Agree (Follows q) (engine w c) (answers (filter_of q) m c)
kept q w m c r = on_world q w m r (λ w. Agree (Follows q) (engine w c) (answers (filter_of q) m c)) (λ k. each_call q m w.samples w.counts w.windows k c)

-- while a row is one of the last 32 arrivals, the sample store keeps it mended
pub kept_mended : (q : Setting) (w : World) (m : Machine) → Follows q w m → (e c : ℕ) → e < length m.rows
    → length m.rows + m.steps ≤ e + 32 → c < q.width → get_or w.samples (e % 32 * q.width + c) 0 ≡ get_or (mended (get_or m.rows e [])) c 0
unfolding Kept
kept_mended q w m r e c p near l = r.stores.kept e c (omega arith) near l ∙ sym (row_at q.width q.b m.rows r.fair.good e c p l)

-- ---- every list of calls

module _ (q : Setting) (samples counts windows : List ℕ) (h : Starts q samples counts windows) where
  abbrev pub started : Left World
  started = start_of q.b q.window q.rank q.width samples counts windows

  -- starting is accepted
  accepts : (started.said ≡ accepted []) × Follows q started.state opened
  unfolding start_of start_asks good_rows
  accepts =
      let w = windowed q.window q.b q.rank h.window in
      rw (w.bits, w.few, w.rect, w.ranks, h.width, h.stores) (
        refl,
        record {
          window = h.window;
          width = h.width;
          fair = opened_fair (filter_of q);
          scan = refl;
          stores = stores_none q (strip_of q.width []) samples counts windows refl (bits_most w) h.stores;
        },
      )

  pub begins : started.said ≡ accepted []
  begins = accepts.0

  both : (cs : List Call) → (replies engine started.state cs ≡ replies (answers (filter_of q)) opened cs)
      × Follows q (ended engine started.state cs) (ended (answers (filter_of q)) opened cs)
  both cs = simulates engine (answers (filter_of q)) (Follows q) (kept q) started.state opened accepts.1 cs

  -- M102-10, SEQ. For every setting within the limits, stores long enough, whatever they hold, and every list of calls after the start, refused
  -- ones mixed in: what each call says, and what it leaves in its output, is what the machine of the ranked window says and leaves.
  pub sequence : (cs : List Call) → replies engine started.state cs ≡ replies (answers (filter_of q)) opened cs
  sequence cs = (both cs).0

  -- M102-6. After every list of calls the scan counts what the machine keeps, the sample store holds the last 32 arrivals, the column counts
  -- those of the last, and the window counts are zero.
  pub sequence_stores : (cs : List Call) → Follows q (ended engine started.state cs) (ended (answers (filter_of q)) opened cs)
  sequence_stores cs = (both cs).1
