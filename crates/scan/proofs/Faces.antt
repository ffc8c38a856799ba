-- The calls of the machine over a table's filter are the calls of a scan.
-- Assumes nothing.
use Rattle.std.proofs.Common.{[], ◌∷◌, ap, not, ◌≡◌, refl, ℕ, Bool, true, false, cond, ◌&&◌, List, ◌++◌, length, ℤ, ◌∙◌, subst, leb, eqb, sym}
use Rattle.layout.specs.Answers.{Left, left, refused, accepted, done, asks, first_no}
use Rattle.layout.specs.declared.Table.{Table}
use Rattle.layout.proofs.Questions.{first_map, each_way}
use Rattle.rule.specs.Mended.{mended}
use Rattle.layout.specs.Measure.{delay_of}
use Rattle.rule.specs.Questions.{width_good}
use Rattle.limits.specs.Limits.{acceptable}
use Rattle.machine.specs.declared.State.{State}
use Rattle.machine.specs.Calls.{Machine, machine, fresh, zeros, shut, agrees as machine_agrees, lent_good as machine_lent, row_arrival, step_arrival, start_asks as machine_start_asks, row_asks as machine_row_asks, start_of as machine_start, row_of as machine_row, close_of as machine_close, step_of as machine_step}
use Rattle.scan.specs.declared.stored.Stored.{Stored}
use Rattle.scan.specs.Calls.{World, world, agrees, lent_good, due_said, start_asks, row_asks, start_of, row_of, close_of, step_of}
use Rattle.scan.specs.Filters.{scan_at, table_rules}

-- the scan of a table and its stores, of a machine
abbrev pub world_of : Table → Machine Stored → World
world_of t m = world (scan_at t m.state) m.filter.samples.now m.filter.sums.now

abbrev pub faced : Table → Left (Machine Stored) → Left World
faced t x = left x.said (world_of t x.state) x.out

both : (b x : Bool) → (cond b true false && x) ≡ (b && x)
both true x = refl
both false x = refl

pub agrees_is : (t : Table) (s : State)
    → (cond (acceptable t) true false && (width_good s.width && (leb s.rows 65535 && (leb s.steps (delay_of t) && cond s.closed true (eqb s.steps 0)))))
    ≡ agrees (scan_at t s)
unfolding agrees
agrees_is t s = both (acceptable t) _

pub row_is : (s : State) (f : Stored) (row : List ℕ) (out : List ℤ)
    → faced f.table (machine_row table_rules (machine s f) row out) ≡ row_of (world_of f.table (machine s f)) row out
unfolding row_of row_asks lent_good due_said
row_is s f row out =
    first_map (faced f.table) (machine_row_asks table_rules (machine s f) row (length out) ++ table_rules.arrival_asks f (row_arrival s) (mended row)) _ _
    ∙ rw (agrees_is f.table s) refl

pub start_is : (f : Stored) (l : ℕ)
    → faced f.table (machine_start table_rules f l) ≡ start_of f.table l f.samples.now f.sums.now
unfolding start_of start_asks
start_is f l = first_map (faced f.table) (machine_start_asks table_rules f l) (λ n p. left (refused n p) (machine (fresh 0) f) []) (left (accepted []) (machine (fresh l) (table_rules.cleared f l)) [])

-- the stores are the same loans
abbrev pub Loaned : Stored → Left (Machine Stored) → Type 0
Loaned f x = (x.state.filter.samples.ghost_name ≡ f.samples.ghost_name) × (x.state.filter.sums.ghost_name ≡ f.sums.ghost_name)

pub row_loaned : (s : State) (f : Stored) (row : List ℕ) (out : List ℤ) {x : Left (Machine Stored)} → x ≡ machine_row table_rules (machine s f) row out → Loaned f x
row_loaned s f row out e =
    subst (Loaned f) (sym e)
    (each_way (Loaned f) (machine_row_asks table_rules (machine s f) row (length out) ++ table_rules.arrival_asks f (row_arrival s) (mended row)) _ _
    (λ n p. (refl, refl)) (λ y. (refl, refl)))

pub start_loaned : (f : Stored) (l : ℕ) {x : Left (Machine Stored)} → x ≡ machine_start table_rules f l → Loaned f x
start_loaned f l e =
    subst (Loaned f) (sym e)
    (each_way (Loaned f) (machine_start_asks table_rules f l) (λ n p. left (refused n p) (machine (fresh 0) f) []) (left (accepted []) (machine (fresh l) (table_rules.cleared f l)) [])
    (λ n p. (refl, refl)) (λ y. (refl, refl)))

-- the steps of the machine: refused and done alike leave the stores
pub step_loaned : (s : State) (f : Stored) (out : List ℤ) {x : Left (Machine Stored)} → x ≡ machine_step table_rules (machine s f) out → Loaned f x
step_loaned s f out e =
    subst (Loaned f) (sym e)
    (each_way (Loaned f) (asks 14 (machine_agrees table_rules (machine s f)) ∷ asks 15 s.closed ∷ []) (λ n p. left (refused n p) (machine s f) out) _
    (λ n p. (refl, refl))
    (λ y. either (leb (delay_of f.table) s.steps) _
    (each_way (Loaned f) (asks 13 (machine_lent table_rules (machine s f) (length out)) ∷ table_rules.arrival_asks f (step_arrival s) (zeros s)) (λ n p. left (refused n p) (machine s f) out) _
    (λ n p. (refl, refl)) (λ y. (refl, refl)))))
  where
    either : (b : Bool) (x : Left (Machine Stored)) → Loaned f x → Loaned f (cond b (left done (machine s f) out) x)
    either true x h = (refl, refl)
    either false x h = h

-- of a call that asks and may be done before it asks on
pub step_is : (s : State) (f : Stored) (out : List ℤ)
    → faced f.table (machine_step table_rules (machine s f) out) ≡ step_of (world_of f.table (machine s f)) out
unfolding step_of lent_good due_said
step_is s f out =
    first_map (faced f.table) (asks 14 (machine_agrees table_rules (machine s f)) ∷ asks 15 s.closed ∷ []) (λ n p. left (refused n p) (machine s f) out) _
    ∙ rw (agrees_is f.table s) (ap (first_no (asks 14 (agrees (scan_at f.table s)) ∷ asks 15 s.closed ∷ []) (λ n p. left (refused n p) (world_of f.table (machine s f)) out))
    (over (leb (delay_of f.table) s.steps) _ _ (first_map (faced f.table) (asks 13 (machine_lent table_rules (machine s f) (length out)) ∷ table_rules.arrival_asks f (step_arrival s) (zeros s)) (λ n p. left (refused n p) (machine s f) out) _)))
  where
    over : (b : Bool) (x : Left (Machine Stored)) (y : Left World) → faced f.table x ≡ y
        → faced f.table (cond b (left done (machine s f) out) x) ≡ cond b (left done (world_of f.table (machine s f)) out) y
    over true x y h = refl
    over false x y h = h

pub close_is : (s : State) (f : Stored) (samples sums : List ℕ)
    → first_no (asks 14 (machine_agrees table_rules (machine s f)) ∷ asks 15 (not s.closed) ∷ [])
    (λ n p. left (refused n p) (world (scan_at f.table s) samples sums) []) (left (accepted []) (world (scan_at f.table (shut s)) samples sums) [])
    ≡ close_of (world (scan_at f.table s) samples sums)
unfolding close_of
close_is s f samples sums = rw (agrees_is f.table s) refl

-- a closing looks at no store
pub closed_as : (s : State) (f : Stored) (samples sums : List ℕ) {x : Left (Machine Stored)} → x ≡ machine_close table_rules (machine s f)
    → left x.said (world (scan_at f.table x.state.state) samples sums) [] ≡ close_of (world (scan_at f.table s) samples sums)
unfolding close_of
closed_as s f samples sums e =
    ap (λ x. left x.said (world (scan_at f.table x.state.state) samples sums) []) e
    ∙ first_map (λ (x : Left (Machine Stored)). left x.said (world (scan_at f.table x.state.state) samples sums) [])
    (asks 14 (machine_agrees table_rules (machine s f)) ∷ asks 15 (not s.closed) ∷ []) (λ n p. left (refused n p) (machine s f) []) (left (accepted []) (machine (shut s) f) [])
    ∙ close_is s f samples sums
