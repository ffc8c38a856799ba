-- SEQ-rows: the rows come out of the machine in order, each once.
-- Assumes nothing.
use Prim.Native.Nat.{ℕ, ◌+◌, ◌-◌, ◌≤◌, ◌<◌}
use native.Mathlib.Omega.{arith}
use mathlib.Core.Path.{◌≡◌, refl, sym, ap, ap₂, ◌∙◌, subst}
use mathlib.Core.Bool.{Bool, true, false, not, cond}
use mathlib.Core.List.{List, [], ◌∷◌, ◌++◌}
use lib.Dec.{T, leb, ltb, ltb→lt, nltb→le}
use lib.IntN.{ℤ, pos}
use lib.ListN.{length, drop, length-append}
use borrow.Author.Tests.{not-true}
use Rattle.arith.specs.Tab.{tab}
use Rattle.arith.proofs.Tabs.{tab-append, tab_cong}
use Rattle.layout.specs.Answers.{refused, accepted, waiting, done, asks, first_no, Left, left}
use Rattle.layout.specs.Sequences.{replies, ended}
use Rattle.layout.proofs.Questions.{AllYes, each_way}
use Rattle.model.specs.Rows.{good_rows}
use Rattle.model.specs.Machines.{Filter, Call, row_call, close_call, step_call, Machine, opened, with_row, with_step}
use Rattle.model.specs.Machines.{due_left, machine_asks, machine_row, machine_close, machine_step, answers}
use Rattle.model.specs.Wholes.{Settled, numbers_of, rows_out, whole_calls}
use Rattle.model.proofs.Wholes.{machine_ends}

-- the numbers from a to b - 1
abbrev range : (a b : ℕ) → List ℤ
range a b = tab (b - a) (λ i. pos (a + i))

range_none : (a : ℕ) → [] ≡ range a a
unfolding tab
range_none a = let e : a - a ≡ 0 = omega arith in sym (ap (λ n. tab n (λ i. pos (a + i))) e)

range_one : (a b : ℕ) → b ≡ a + 1 → pos a ∷ [] ≡ range a b
unfolding tab
range_one a b h =
    let e : b - a ≡ 1 = omega arith in
    let z : a + 0 ≡ a = omega arith in
    ap (λ n. pos n ∷ []) (sym z) ∙ sym (ap (λ n. tab n (λ i. pos (a + i))) e)

range-append : (a b c : ℕ) → a ≤ b → b ≤ c → range a b ++ range b c ≡ range a c
range-append a b c p q =
    let e : c - a ≡ b - a + (c - b) = omega arith in
    sym (ap (λ n. tab n (λ i. pos (a + i))) e ∙ tab-append (b - a) (c - b) (λ i. pos (a + i))
    ∙ ap (λ l. tab (b - a) (λ i. pos (a + i)) ++ l) (tab_cong (c - b) (λ i h. ap pos (place a b i p))))
  where
    place : (a b i : ℕ) → a ≤ b → a + (b - a + i) ≡ b + i
    place a b i p = omega arith

from_none : (n : ℕ) → range 0 n ≡ tab n pos
from_none n = let e : n - 0 ≡ n = omega arith in ap (λ k. tab k (λ i. pos (0 + i))) e ∙ tab_cong n (λ i h. ap pos (front i))
  where
    front : (i : ℕ) → 0 + i ≡ i
    front i = omega arith

-- a machine that is open has done no step
abbrev Whole : Machine → Type 0
Whole m = m.closed ≡ false → m.steps ≡ 0

module _ (f : Filter) where
  -- one call gives out the numbers from those given out before it on
  record Goes (m : Machine) (x : Left Machine) : Type 0 where
    numbers : x.said.values ≡ range (rows_out f m) (rows_out f x.state)
    more : rows_out f m ≤ rows_out f x.state
    whole : Whole x.state

  module _ (m : Machine) (h : Whole m) where
    stays : (out : List ℤ) (n p : ℕ) → Goes m (left (refused n p) m out)
    stays out n p = record { numbers = range_none (rows_out f m); more = omega arith; whole = h }

    -- an arrival after rows_out + D of them, or fewer
    goes_due : (a : ℕ) (rows : List (List ℕ)) (out : List ℤ) (after : Machine) → a ≡ length m.rows + m.steps → rows_out f after ≡ a + 1 - f.delay
        → Whole after → Goes m (due_left f a rows out after)
    unfolding due_left
    goes_due a rows out after e n k = go (ltb a f.delay) (ltb→lt a f.delay) (nltb→le a f.delay)
      where
        go : (b : Bool) → (T b → a < f.delay) → (T (not b) → f.delay ≤ a)
            → Goes m (cond b (left waiting after out)
            (left (accepted (pos (a - f.delay) ∷ [])) after (tab f.width (f.pixel rows (a - f.delay)) ++ drop f.width out)))
        go true y z =
            let l = y tt in
            let p : rows_out f m ≡ rows_out f after = omega arith in
            record { numbers = range_none (rows_out f m) ∙ ap (range (rows_out f m)) p; more = omega arith; whole = k }
        go false y z =
            let l = z tt in
            let p : a - f.delay ≡ rows_out f m = omega arith in
            record { numbers = ap (λ i. pos i ∷ []) p ∙ range_one (rows_out f m) (rows_out f after) (omega arith); more = omega arith; whole = k }

    goes_row : (row : List ℕ) (out : List ℤ) → Goes m (machine_row f m row out)
    unfolding machine_row machine_asks
    goes_row row out =
        each_way (Goes m) (machine_asks f m row (length out)) (λ n p. left (refused n p) m out) _ (stays out) (λ y. taken y)
      where
        taken : AllYes (machine_asks f m row (length out)) → Goes m (due_left f (length m.rows) (m.rows ++ (row ∷ [])) out (with_row m row))
        taken y =
            let z = h (not-true m.closed y.0) in
            let n = length-append m.rows (row ∷ []) in
            goes_due (length m.rows) (m.rows ++ (row ∷ [])) out (with_row m row) (omega arith) (omega arith) (λ c. z)

    goes_close : Goes m (machine_close m)
    unfolding machine_close
    goes_close =
        each_way (Goes m) (asks 15 (not m.closed) ∷ []) (λ n p. left (refused n p) m []) _ (stays [])
        (λ y. record { numbers = range_none (rows_out f m); more = omega arith; whole = λ c. absurd (subst T c tt) })

    goes_step : (out : List ℤ) → Goes m (machine_step f m out)
    unfolding machine_step
    goes_step out =
        each_way (Goes m) (asks 15 m.closed ∷ []) (λ n p. left (refused n p) m out) _ (stays out) (λ y. go y.0 (leb f.delay m.steps))
      where
        go : m.closed ≡ true → (b : Bool)
            → Goes m (cond b (left done m out)
            (first_no (asks 13 (leb f.width (length out)) ∷ []) (λ n p. left (refused n p) m out)
            (due_left f (length m.rows + m.steps) m.rows out (with_step m))))
        go c true = record { numbers = range_none (rows_out f m); more = omega arith; whole = h }
        go c false =
            each_way (Goes m) (asks 13 (leb f.width (length out)) ∷ []) (λ n p. left (refused n p) m out) _ (stays out)
            (λ y. goes_due (length m.rows + m.steps) m.rows out (with_step m) refl
            (let e : length m.rows + (m.steps + 1) ≡ length m.rows + m.steps + 1 = omega arith in ap (λ n. n - f.delay) e)
            (λ d. absurd (subst T (sym c ∙ d) tt)))

  goes : (m : Machine) → Whole m → (c : Call) → Goes m (answers f m c)
  unfolding answers
  goes m h (row_call row out) = goes_row m h row out
  goes m h close_call = goes_close m h
  goes m h (step_call out) = goes_step m h out

  all_go : (m : Machine) → Whole m → (cs : List Call)
      → (numbers_of (replies (answers f) m cs) ≡ range (rows_out f m) (rows_out f (ended (answers f) m cs)))
      × (rows_out f m ≤ rows_out f (ended (answers f) m cs))
  unfolding numbers_of replies ended
  all_go m h [] = (range_none (rows_out f m), omega arith)
  all_go m h (c ∷ cs) =
      let g = goes m h c in
      let x = answers f m c in
      let r = all_go x.state g.whole cs in
      let p = g.more in
      let q = r.1 in
      let e = range-append (rows_out f m) (rows_out f x.state) (rows_out f (ended (answers f) x.state cs)) p q in
      (ap₂ ◌++◌ g.numbers r.0 ∙ e, omega arith)

  -- For every list of calls, refused ones mixed in, the numbers of the rows that come out are 0, 1, 2 and so on, each once and in order, up to
  -- the number of arrivals less D.
  pub in_order : (cs : List Call) → numbers_of (replies (answers f) opened cs) ≡ tab (rows_out f (ended (answers f) opened cs)) pos
  in_order cs =
      let n = rows_out f (ended (answers f) opened cs) in
      let z : 0 + 0 - f.delay ≡ 0 = omega arith in
      (all_go opened (λ c. refl) cs).0 ∙ ap (λ a. range a n) z ∙ from_none n

-- a whole scan of H rows gives the rows 0 to H - 1
pub whole_in_order : (f : Filter) → Settled f → (outs : ℕ → List ℤ) → ((a : ℕ) → f.width ≤ length (outs a))
    → (rows : List (List ℕ)) → T (good_rows f.width f.bits rows) → length rows ≤ 65535
    → numbers_of (replies (answers f) opened (whole_calls f outs rows)) ≡ tab (length rows) pos
whole_in_order f s outs long rows h few =
    let e : length rows + f.delay - f.delay ≡ length rows = omega arith in
    in_order f (whole_calls f outs rows) ∙ ap (λ m. tab (rows_out f m) pos) (machine_ends f s outs long rows h few) ∙ ap (λ n. tab n pos) e
