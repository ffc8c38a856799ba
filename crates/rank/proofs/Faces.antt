-- The calls of the machine over a window are the calls of a ranked scan.
-- Assumes nothing.
use Rattle.std.proofs.Common.{[], ◌∷◌, ap, not, ◌≡◌, refl, ℕ, Bool, true, false, cond, ◌&&◌, List, ◌++◌, length, ℤ, ◌∙◌, subst, leb, eqb, sym}
use Rattle.layout.specs.Answers.{Left, left, refused, accepted, done, asks, first_no}
use Rattle.layout.proofs.Questions.{first_map, each_way}
use Rattle.rule.specs.Mended.{mended}
use Rattle.rule.specs.Questions.{width_good}
use Rattle.histograms.specs.Arrivals.{delay_by}
use Rattle.machine.specs.declared.State.{State}
use Rattle.machine.specs.Calls.{Machine, machine, fresh, zeros, shut, agrees as machine_agrees, lent_good as machine_lent, row_arrival, step_arrival, start_asks as machine_start_asks, row_asks as machine_row_asks, start_of as machine_start, row_of as machine_row, close_of as machine_close, step_of as machine_step}
use Rattle.rank.specs.declared.Window.{Window}
use Rattle.rank.specs.declared.RankScan.{RankScan}
use Rattle.rank.specs.declared.ranking.Ranking.{Ranking}
use Rattle.rank.specs.Calls.{rect_of, World, world, agrees, lent_good, due_said, start_asks, row_asks, start_of, row_of, close_of, step_of}
use Rattle.rank.specs.Filters.{scan_at, window_rules}
use Rattle.rank.proofs.Filters.{good_window}

-- the scan of a window and its stores, of a machine
abbrev pub world_of : Window → (b rank : ℕ) → Machine Ranking → World
world_of w b rank m = world (scan_at w b rank m.state) m.filter.samples.now m.filter.counts.now m.filter.windows.now

abbrev pub faced : Window → (b rank : ℕ) → Left (Machine Ranking) → Left World
faced w b rank x = left x.said (world_of w b rank x.state) x.out

-- the scan of a filter that is so far
abbrev pub scan_in : Ranking → State → RankScan
scan_in f s = scan_at f.window f.b f.rank s

pub agrees_is : (f : Ranking) (s : State) → machine_agrees window_rules (machine s f) ≡ agrees (scan_in f s)
unfolding agrees
agrees_is f s =
    ap (λ b. b && (width_good s.width && (leb s.rows 65535 && (leb s.steps (delay_by (rect_of f.window)) && cond s.closed true (eqb s.steps 0)))))
    (good_window f)

pub row_is : (s : State) (f : Ranking) (row : List ℕ) (out : List ℤ)
    → faced f.window f.b f.rank (machine_row window_rules (machine s f) row out) ≡ row_of (world_of f.window f.b f.rank (machine s f)) row out
unfolding row_of row_asks lent_good due_said
row_is s f row out =
    first_map (faced f.window f.b f.rank)
    (machine_row_asks window_rules (machine s f) row (length out) ++ window_rules.arrival_asks f (row_arrival s) (mended row)) _ _
    ∙ rw (agrees_is f s) refl

pub start_is : (f : Ranking) (l : ℕ)
    → faced f.window f.b f.rank (machine_start window_rules f l) ≡ start_of f.b f.window f.rank l f.samples.now f.counts.now f.windows.now
unfolding start_of start_asks
start_is f l =
    first_map (faced f.window f.b f.rank) (machine_start_asks window_rules f l)
    (λ n p. left (refused n p) (machine (fresh 0) f) []) (left (accepted []) (machine (fresh l) (window_rules.cleared f l)) [])

-- of a call that asks, and may be done before it asks on
pub step_is : (s : State) (f : Ranking) (out : List ℤ)
    → faced f.window f.b f.rank (machine_step window_rules (machine s f) out) ≡ step_of (world_of f.window f.b f.rank (machine s f)) out
unfolding step_of lent_good due_said
step_is s f out =
    first_map (faced f.window f.b f.rank) (asks 14 (machine_agrees window_rules (machine s f)) ∷ asks 15 s.closed ∷ [])
    (λ n p. left (refused n p) (machine s f) out) _
    ∙ rw (agrees_is f s)
    (ap (first_no (asks 14 (agrees (scan_in f s)) ∷ asks 15 s.closed ∷ []) (λ n p. left (refused n p) (world_of f.window f.b f.rank (machine s f)) out))
    (over (leb (delay_by (rect_of f.window)) s.steps) _ _
    (first_map (faced f.window f.b f.rank)
    (asks 13 (machine_lent window_rules (machine s f) (length out)) ∷ window_rules.arrival_asks f (step_arrival s) (zeros s))
    (λ n p. left (refused n p) (machine s f) out) _)))
  where
    over : (b : Bool) (x : Left (Machine Ranking)) (y : Left World) → faced f.window f.b f.rank x ≡ y
        → faced f.window f.b f.rank (cond b (left done (machine s f) out) x) ≡ cond b (left done (world_of f.window f.b f.rank (machine s f)) out) y
    over true x y h = refl
    over false x y h = h

-- a closing looks at no store
pub close_is : (s : State) (f : Ranking) (samples counts windows : List ℕ) {x : Left (Machine Ranking)} → x ≡ machine_close window_rules (machine s f)
    → left x.said (world (scan_in f x.state.state) samples counts windows) [] ≡ close_of (world (scan_in f s) samples counts windows)
unfolding close_of
close_is s f samples counts windows e =
    ap (λ x. left x.said (world (scan_in f x.state.state) samples counts windows) []) e
    ∙ first_map (λ (x : Left (Machine Ranking)). left x.said (world (scan_in f x.state.state) samples counts windows) [])
    (asks 14 (machine_agrees window_rules (machine s f)) ∷ asks 15 (not s.closed) ∷ []) (λ n p. left (refused n p) (machine s f) [])
    (left (accepted []) (machine (shut s) f) [])
    ∙ rw (agrees_is f s) refl

-- ---- the stores are the same loans

abbrev pub Loaned : Ranking → Left (Machine Ranking) → Type 0
Loaned f x =
    (x.state.filter.samples.ghost_name ≡ f.samples.ghost_name) × (x.state.filter.counts.ghost_name ≡ f.counts.ghost_name)
    × (x.state.filter.windows.ghost_name ≡ f.windows.ghost_name)

pub row_loaned : (s : State) (f : Ranking) (row : List ℕ) (out : List ℤ) {x : Left (Machine Ranking)} → x ≡ machine_row window_rules (machine s f) row out
    → Loaned f x
row_loaned s f row out e =
    subst (Loaned f) (sym e)
    (each_way (Loaned f) (machine_row_asks window_rules (machine s f) row (length out) ++ window_rules.arrival_asks f (row_arrival s) (mended row)) _ _
    (λ n p. (refl, refl, refl)) (λ y. (refl, refl, refl)))

pub start_loaned : (f : Ranking) (l : ℕ) {x : Left (Machine Ranking)} → x ≡ machine_start window_rules f l → Loaned f x
start_loaned f l e =
    subst (Loaned f) (sym e)
    (each_way (Loaned f) (machine_start_asks window_rules f l) (λ n p. left (refused n p) (machine (fresh 0) f) [])
    (left (accepted []) (machine (fresh l) (window_rules.cleared f l)) []) (λ n p. (refl, refl, refl)) (λ y. (refl, refl, refl)))

pub step_loaned : (s : State) (f : Ranking) (out : List ℤ) {x : Left (Machine Ranking)} → x ≡ machine_step window_rules (machine s f) out → Loaned f x
step_loaned s f out e =
    subst (Loaned f) (sym e)
    (each_way (Loaned f) (asks 14 (machine_agrees window_rules (machine s f)) ∷ asks 15 s.closed ∷ []) (λ n p. left (refused n p) (machine s f) out) _
    (λ n p. (refl, refl, refl))
    (λ y. either (leb (delay_by (rect_of f.window)) s.steps) _
    (each_way (Loaned f) (asks 13 (machine_lent window_rules (machine s f) (length out)) ∷ window_rules.arrival_asks f (step_arrival s) (zeros s))
    (λ n p. left (refused n p) (machine s f) out) _ (λ n p. (refl, refl, refl)) (λ y. (refl, refl, refl)))))
  where
    either : (b : Bool) (x : Left (Machine Ranking)) → Loaned f x → Loaned f (cond b (left done (machine s f) out) x)
    either true x h = (refl, refl, refl)
    either false x h = h
