-- The rows of a burst that are still to be given: what they come to from here is what the burst comes to.
-- Assumes nothing.
use Prim.Native.Nat.{ℕ, suc, ◌+◌, ◌-◌, ◌*◌, ◌≤◌, ◌<◌}
use native.Mathlib.Nat.{le_refl, mul-le-mul}
use native.Mathlib.Omega.{arith}
use mathlib.Core.Path.{◌≡◌, refl, sym, ap, ◌∙◌}
use mathlib.Core.Bool.{Bool, true, false, cond}
use mathlib.Core.List.{List, [], ◌∷◌, ◌++◌}
use lib.Dec.{ltb}
use lib.IntN.{ℤ, pos}
use lib.ListN.{length}
use borrow.Author.Tests.{ltb-true}
use Rattle.layout.specs.Answers.{Said, said, refused, accepted, waiting, left}
use Rattle.std.proofs.Common.{Result, Ok, Err, is_err}
use Rattle.layout.specs.declared.asking.Refusal.{Refusal}
use Rattle.layout.specs.Measure.{delay_of}
use Rattle.layout.proofs.Questions.{first_yes}
use Rattle.arrival.specs.Arrivals.{arrival_asks}
use Rattle.arith.proofs.Parts.{line_end_lem}
use Rattle.scan.specs.declared.Scan.{Scan}
use Rattle.scan.specs.Calls.{World, row_arrival, due_said, taken_in, row_in, row_asks, row_of}
use Rattle.burst.specs.Bursts.{Progress, progress, is_refused, row_said, next_left, counted, feed}

-- a burst is refused where its row is
pub row_refused : (s : Said) → is_refused (row_said s) ≡ is_refused s
row_refused s = go (is_refused s) refl
  where
    go : (b : Bool) → is_refused s ≡ b → is_refused (cond b s (accepted [])) ≡ b
    go true e = e
    go false e = refl

pub err_refused : (v : Result (Unit {0}) Refusal) → is_err v ≡ is_refused (said v)
err_refused (Ok x) = refl
err_refused (Err r) = refl

-- a row that is not refused is taken, and is one of at most 65,535
pub row_taken : (w : World) (row : List ℕ) (out : List ℤ) → is_refused (row_of w row out).said ≡ false
    → (w.scan.rows < 65535) × (row_of w row out ≡ taken_in w (row_in w.scan) (row_arrival w row) out)
unfolding row_of row_asks
row_taken w row out e =
    let r =
    first_yes (λ x. is_refused x.said) (row_asks w.scan row (length w.samples) (length w.sums) (length out) ++ arrival_asks (row_arrival w row))
    (λ n p. left (refused n p) w out) (taken_in w (row_in w.scan) (row_arrival w row) out) (λ n p. refl) e in
    (ltb-true w.scan.rows 65535 r.0.1.1.0, r.1)

-- at most one filtered row comes out of it
due_most : (s : Scan) → length (due_said s).values ≤ 1
unfolding due_said
due_most s = go (ltb (s.rows + s.steps) (delay_of s.table))
  where
    go : (b : Bool) → length (cond b waiting (accepted (pos (s.rows + s.steps - delay_of s.table) ∷ []))).values ≤ 1
    go true = omega arith
    go false = omega arith

-- part way through n rows of l samples: there is room for them all, and what is left to give comes to the whole
pub record Rest (l n : ℕ) (rows : List ℕ) (whole p : Progress World) : Type 0 where
  pub rows_room : n * l ≤ length rows
  pub out_room : n * l ≤ length p.out
  pub fewer : p.taken ≤ n
  pub packed : p.filtered ≤ p.taken
  pub among : p.taken ≤ p.state.scan.rows
  pub rows_most : p.state.scan.rows ≤ 65535
  pub width_most : l ≤ 1024
  pub rest : feed row_of l (n - p.taken) p rows ≡ whole

-- before the first row
pub none_fed : (l n : ℕ) (rows : List ℕ) (w : World) (out : List ℤ) → n * l ≤ length rows → n * l ≤ length out → w.scan.rows ≤ 65535 → l ≤ 1024
    → Rest l n rows (feed row_of l n (progress (accepted []) w out 0 0) rows) (progress (accepted []) w out 0 0)
none_fed l n rows w out a b g h =
    let k : n - 0 ≡ n = omega arith in
    record {
      rows_room = a;
      out_room = b;
      fewer = omega arith;
      packed = omega arith;
      among = omega arith;
      rows_most = g;
      width_most = h;
      rest = ap (λ m. feed row_of l m (progress (accepted []) w out 0 0) rows) k;
    }

module _ (l n : ℕ) (rows : List ℕ) (whole p : Progress World) (r : Rest l n rows whole p) where
  -- no row is left
  pub all_fed : n ≤ p.taken → p ≡ whole
  unfolding feed
  all_fed h = let e : n - p.taken ≡ 0 = omega arith in sym (ap (λ k. feed row_of l k p rows) e) ∙ r.rest

  module _ (h : p.taken < n) where
    -- the next row lies in the slice, and its filtered row has place in the output
    pub row_room : p.taken * l + l ≤ length rows
    row_room = line_end_lem p.taken n l (length rows) h r.rows_room

    pub place_room : p.filtered * l + l ≤ length p.out
    place_room = let g = r.packed in line_end_lem p.filtered n l (length p.out) (omega arith) r.out_room

    -- both lie among the first 2^26 places
    place_small : (k : ℕ) → k ≤ p.taken → k * l + l ≤ 67108864
    place_small k g =
        let a = r.among in
        let b = r.rows_most in
        let q : k + 1 ≤ 65536 = omega arith in
        let m : (k + 1) * l ≤ 65536 * 1024 = mul-le-mul q r.width_most in omega arith

    pub row_small : p.taken * l + l ≤ 67108864
    row_small = place_small p.taken (le_refl p.taken)

    pub out_small : p.filtered * l + l ≤ 67108864
    out_small = place_small p.filtered r.packed

    abbrev next : Progress World
    next = counted l p (next_left row_of l p rows)

    goes : cond (is_refused (next_left row_of l p rows).said) next (feed row_of l (n - (p.taken + 1)) next rows) ≡ whole
    unfolding feed
    goes = let e : n - p.taken ≡ suc (n - (p.taken + 1)) = omega arith in sym (ap (λ k. feed row_of l k p rows) e) ∙ r.rest

    -- the next row is refused
    pub ends : is_refused (next_left row_of l p rows).said ≡ true → next ≡ whole
    ends e = sym (ap (λ b. cond b next (feed row_of l (n - (p.taken + 1)) next rows)) e) ∙ goes

    -- the next row is taken
    pub goes_on : is_refused (next_left row_of l p rows).said ≡ false → length next.out ≡ length p.out → Rest l n rows whole next
    goes_on e k =
        let t = row_taken p.state _ _ e in
        let few = t.0 in
        let x = t.1 in
        let more : next.state.scan.rows ≡ p.state.scan.rows + 1 = ap (λ y. y.state.scan.rows) x in
        let one : next.taken ≡ p.taken + 1 = rw e refl in
        let due = due_most p.state.scan in
        let out : length (next_left row_of l p rows).said.values ≤ 1 = rw x due in
        let a = r.packed in
        let b = r.among in
        record {
          rows_room = r.rows_room;
          out_room = rw k r.out_room;
          fewer = omega arith;
          packed = omega arith;
          among = omega arith;
          rows_most = omega arith;
          width_most = r.width_most;
          rest = ap (λ t. feed row_of l (n - t) next rows) one ∙ sym (ap (λ b. cond b next (feed row_of l (n - (p.taken + 1)) next rows)) e) ∙ goes;
        }
