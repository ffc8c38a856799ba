-- B-pixels: the rows that a burst packs are the pixel rule's.
-- Assumes nothing.
use Prim.Native.Nat.{ℕ, zero, suc, ◌+◌, ◌-◌, ◌*◌, ◌/◌, ◌%◌, ◌≤◌, ◌<◌}
use native.Mathlib.Nat.{div-mul-le_self, le_trans, mul-le-mul_right, add-zero}
use native.Mathlib.Omega.{arith}
use mathlib.Core.Path.{◌≡◌, refl, sym, ap, ap₂, ◌∙◌, subst}
use mathlib.Core.Bool.{Bool, true, false, not, cond}
use mathlib.Core.List.{List, [], ◌∷◌, ◌++◌, append_assoc, append-nil}
use lib.Dec.{T, leb, ltb, eqb, ltb→lt, nltb→le}
use lib.IntN.{ℤ, pos}
use lib.ListN.{length, take, drop, length-append, length-drop, drop_of_length-le}
use borrow.Author.Tests.{leb-true}
use Rattle.arith.specs.Tab.{tab, grid, paste}
use Rattle.arith.proofs.Parts.{part_long, paste_own}
use Rattle.arith.proofs.Passes.{length-grid, grid_none}
use Rattle.arith.proofs.Grids.{grid_cong, grid-paste}
use Rattle.layout.specs.declared.Table.{Table}
use Rattle.layout.specs.Answers.{Said, refused, accepted, waiting, asks, Left, left}
use Rattle.layout.specs.Sequences.{reply_of, ended}
use Rattle.layout.proofs.Questions.{AllYes, each_way}
use Rattle.scan.specs.Calls.{start_of}
use Rattle.burst.specs.Bursts.{Progress, progress, is_refused, next_left, counted, feed, burst_left, no_rows, burst_of}
use Rattle.model.specs.Rows.{good_rows}
use Rattle.model.specs.Machines.{Filter, Machine, machine, opened, due_left, machine_asks, with_row, machine_row}
use Rattle.model.specs.Wholes.{Settled}
use Rattle.model.proofs.Rows.{good_append, good_one}
use Rattle.run.specs.Holds.{Starts}
use Rattle.run.specs.Packs.{rows_of_slice, Packed}
use Rattle.run.specs.Sequences.{filter_of, Call, rows_call, engine, machine_rows, answers}
use Rattle.run.proofs.Later.{settled}
use Rattle.run.proofs.Sequences.{sequence_stores, kept}

-- no row
no_lines : {A : Type 0} (l : ℕ) (f : ℕ → ℕ → A) (xs : List A) → xs ≡ grid 0 l f ++ drop (0 * l) xs
no_lines l f xs = let z : 0 ≡ 0 * l = omega arith in grid_none l f xs ∙ ap (λ i. grid 0 l f ++ drop i xs) z

module _ (f : Filter) (settles : Settled f) (m : Machine) (rows : List ℕ) (out : List ℤ) (n : ℕ) (fits : n * f.width ≤ length out)
    (good : T (good_rows f.width f.bits m.rows)) where
  abbrev l : ℕ
  l = f.width

  abbrev h : ℕ
  h = length m.rows

  abbrev d : ℕ
  d = f.delay

  -- the rows, the rows out and the output after k rows
  abbrev R : ℕ → List (List ℕ)
  R k = m.rows ++ rows_of_slice l k rows

  abbrev F : ℕ → ℕ
  F k = h + k - d - (h - d)

  abbrev pixel : (k i c : ℕ) → ℤ
  pixel k i c = f.pixel (R k) (h - d + i) c

  abbrev O : ℕ → List ℤ
  O k = grid (F k) l (pixel k) ++ drop (F k * l) out

  abbrev M : ℕ → Machine
  M k = machine (R k) m.steps m.closed

  slice_length : (k : ℕ) → length (rows_of_slice l k rows) ≡ k
  unfolding rows_of_slice
  slice_length zero = refl
  slice_length (suc k) =
      let e = slice_length k in
      let z : length (rows_of_slice l k rows) + 1 ≡ suc k = omega arith in
      length-append (rows_of_slice l k rows) _ ∙ z

  rows_length : (k : ℕ) → length (R k) ≡ h + k
  rows_length k = length-append m.rows (rows_of_slice l k rows) ∙ ap (λ i. h + i) (slice_length k)

  -- one row more
  abbrev row : ℕ → List ℕ
  row k = take l (drop (k * l) rows)

  rows_more : (k : ℕ) → R k ++ (row k ∷ []) ≡ R (suc k)
  unfolding rows_of_slice
  rows_more k = append_assoc m.rows (rows_of_slice l k rows) (row k ∷ [])

  pixels_more : (k : ℕ) → T (good_rows l f.bits (R k)) → grid (F k) l (pixel k) ≡ grid (F k) l (pixel (suc k))
  pixels_more k g =
      grid_cong (F k) l (λ i c p q.
      settles.later (R k) (row k ∷ []) g (h - d + i) c (let e = rows_length k in omega arith) ∙ ap (λ rs. f.pixel rs (h - d + i) c) (rows_more k))

  -- a burst part way, k rows taken
  record Along (p : Progress Machine) : Type 0 where
    k : ℕ
    fewer : k ≤ n
    good_so_far : T (good_rows l f.bits (R k))
    is : p ≡ progress p.said (M k) (O k) k (F k)

  same_progress : {s : Said} {x y : Machine} {o o' : List ℤ} {a a' b b' : ℕ} → x ≡ y → o ≡ o' → a ≡ a' → b ≡ b'
      → progress s x o a b ≡ progress s y o' a' b'
  same_progress e f g h = rw (e, f, g, h) refl

  module _ (k : ℕ) (less : k < n) (g : T (good_rows l f.bits (R k))) (s : Said) where
    abbrev p : Progress Machine
    p = progress s (M k) (O k) k (F k)

    abbrev lent : List ℤ
    lent = take l (drop (F k * l) (O k))

    few : F k ≤ k
    few = omega arith

    out_long : length (O k) ≡ length out
    out_long =
        let a = length-append (grid (F k) l (pixel k)) (drop (F k * l) out) in
        let b = length-grid (F k) l (pixel k) in
        let c = length-drop (F k * l) out in
        let e = mul-le-mul_right l few in
        let u = mul-le-mul_right l less in
        omega arith

    room : F k * l + l ≤ length (O k)
    room =
        let a = few in
        let q : F k + 1 ≤ n = omega arith in
        let u = mul-le-mul_right l q in
        let e = out_long in
        omega arith

    -- the output comes back as it was lent
    same_out : paste (F k * l) lent (O k) ≡ O k
    same_out = paste_own (F k * l) l (O k) room

    refusal : (number place : ℕ) → Along (counted l p (left (refused number place) (M k) lent))
    refusal number place =
        record {
          k = k;
          fewer = omega arith;
          good_so_far = g;
          is = same_progress refl same_out (add-zero k) (add-zero (F k));
        }

    -- a row that is taken
    module _ (y : AllYes (machine_asks f (M k) (row k) (length lent))) where
      more : T (good_rows l f.bits (R (suc k)))
      unfolding machine_asks
      more =
          subst (λ rs. T (good_rows l f.bits rs)) (rows_more k)
          (good_append l f.bits (R k) (row k ∷ []) g (good_one l f.bits (row k) y.1.1.0 y.1.1.1.1.0))

      next : Machine
      next = with_row (M k) (row k)

      next_is : with_row (M k) (row k) ≡ M (suc k)
      next_is = ap (λ rs. machine rs m.steps m.closed) (rows_more k)

      one : k + 1 ≡ suc k
      one = omega arith

      -- none is due yet
      waits : h + k < d → Along (counted l p (left waiting (with_row (M k) (row k)) lent))
      waits q =
          let a : F k + 0 ≡ F (suc k) = omega arith in
          let b : F k ≡ F (suc k) = omega arith in
          record {
            k = suc k;
            fewer = less;
            good_so_far = more;
            is = same_progress next_is
                (same_out ∙ ap (λ xs. xs ++ drop (F k * l) out) (pixels_more k g) ∙ ap (λ i. grid i l (pixel (suc k)) ++ drop (i * l) out) b) one a;
          }

      -- row h + k - D is due
      comes : d ≤ h + k
          → Along (counted l p (left (accepted (pos (h + k - d) ∷ [])) (with_row (M k) (row k))
          (tab l (f.pixel (R k ++ (row k ∷ [])) (h + k - d)) ++ drop l lent)))
      comes q =
          let a : F k + 1 ≡ F (suc k) = omega arith in
          let b : suc (F k) ≡ F (suc k) = omega arith in
          let e : h + k - d ≡ h - d + F k = omega arith in
          let nothing : drop l lent ≡ [] = drop_of_length-le lent {i = l} (let z = part_long (F k * l) l (O k) room in omega arith) in
          let line : tab l (f.pixel (R k ++ (row k ∷ [])) (h + k - d)) ++ drop l lent ≡ tab l (pixel (suc k) (F k)) =
          ap (λ xs. tab l (f.pixel (R k ++ (row k ∷ [])) (h + k - d)) ++ xs) nothing
          ∙ append-nil (tab l (f.pixel (R k ++ (row k ∷ [])) (h + k - d)))
          ∙ ap₂ (λ rs i. tab l (f.pixel rs i)) (rows_more k) e in
          record {
            k = suc k;
            fewer = less;
            good_so_far = more;
            is = same_progress next_is
                (ap₂ (λ xs g. paste (F k * l) xs (g ++ drop (F k * l) out)) line (pixels_more k g) ∙ grid-paste (F k) l (pixel (suc k)) out
                ∙ ap (λ i. grid i l (pixel (suc k)) ++ drop (i * l) out) b) one a;
          }

      due : Along (counted l p (due_left f (h + k) (R k ++ (row k ∷ [])) lent (with_row (M k) (row k))))
      unfolding due_left
      due = go (ltb (h + k) d) (ltb→lt (h + k) d) (nltb→le (h + k) d)
        where
          go : (b : Bool) → (T b → h + k < d) → (T (not b) → d ≤ h + k)
              → Along (counted l p (cond b (left waiting (with_row (M k) (row k)) lent)
              (left (accepted (pos (h + k - d) ∷ [])) (with_row (M k) (row k)) (tab l (f.pixel (R k ++ (row k ∷ [])) (h + k - d)) ++ drop l lent))))
          go true w c = waits (w tt)
          go false w c = comes (c tt)

      taken : Along (counted l p (due_left f (length (R k)) (R k ++ (row k ∷ [])) lent (with_row (M k) (row k))))
      taken = subst (λ i. Along (counted l p (due_left f i (R k ++ (row k ∷ [])) lent (with_row (M k) (row k))))) (sym (rows_length k)) due

    step : Along (counted l p (next_left (machine_row f) l p rows))
    unfolding machine_row
    step = each_way (λ x. Along (counted l p x)) (machine_asks f (M k) (row k) (length lent)) (λ n p. left (refused n p) (M k) lent) _ refusal taken

  next_taken : (p : Progress Machine) (x : Left Machine) → (counted l p x).taken ≤ p.taken + 1
  next_taken p x = go (is_refused x.said)
    where
      go : (b : Bool) → p.taken + cond b 0 1 ≤ p.taken + 1
      go true = omega arith
      go false = omega arith

  along_next : (p : Progress Machine) → Along p → p.taken < n → Along (counted l p (next_left (machine_row f) l p rows))
  along_next p a less =
      let q = progress p.said (M a.k) (O a.k) a.k (F a.k) in
      let e : p.taken ≡ a.k = ap (λ x. x.taken) a.is in
      subst (λ p. Along (counted l p (next_left (machine_row f) l p rows))) (sym a.is) (step a.k (omega arith) a.good_so_far p.said)

  along : (j : ℕ) (p : Progress Machine) → Along p → p.taken + j ≤ n → Along (feed (machine_row f) l j p rows)
  unfolding feed
  along zero p a r = a
  along (suc j) p a r =
      let b = along_next p a (omega arith) in
      let u = next_taken p (next_left (machine_row f) l p rows) in
      go (is_refused (next_left (machine_row f) l p rows).said) b (along j (counted l p (next_left (machine_row f) l p rows)) b (omega arith))
    where
      go : (y : Bool) {q r : Progress Machine} → Along q → Along r → Along (cond y q r)
      go true q r = q
      go false q r = r

  none : Along (progress (accepted []) m out 0 0)
  unfolding rows_of_slice
  none =
      let z : F 0 ≡ 0 = omega arith in
      record {
        k = 0;
        fewer = omega arith;
        good_so_far = subst (λ rs. T (good_rows l f.bits rs)) (sym (append-nil m.rows)) good;
        is = same_progress (ap (λ rs. machine rs m.steps m.closed) (sym (append-nil m.rows)))
            (no_lines l (pixel 0) out ∙ ap (λ i. grid i l (pixel 0) ++ drop (i * l) out) (sym z)) refl (sym z);
      }

  packed : (p : Progress Machine) → Along p → Packed f m rows out (reply_of (burst_left p))
  packed p a =
      let e = a.is in
      record {
        taken = a.k;
        filtered = F a.k;
        says = ap (λ q. pos q.taken ∷ pos q.filtered ∷ []) e;
        count = refl;
        pixels = ap (λ q. q.out) e;
      }

pub machine_packs : (f : Filter) → Settled f → (m : Machine) → T (good_rows f.width f.bits m.rows) → (rows : List ℕ) (out : List ℤ)
    → Packed f m rows out (reply_of (machine_rows f m rows out))
unfolding machine_rows
machine_packs f s m good rows out =
    let n = length rows / f.width in
    each_way (λ x. Packed f m rows out (reply_of x))
    (asks 15 (not m.closed) ∷ asks 21 (eqb (length rows % f.width) 0) ∷ asks 13 (leb (length rows) (length out)) ∷ []) (no_rows m out) _
    (λ i p. refusal i p)
    (λ y. let fits = le_trans (div-mul-le_self (length rows) f.width) (leb-true (length rows) (length out) y.1.1.0) in
    packed f s m rows out n fits good _
    (along f s m rows out n fits good n (progress (accepted []) m out 0 0) (none f s m rows out n fits good) (omega arith)))
  where
    refusal : (i p : ℕ) → Packed f m rows out (reply_of (no_rows m out i p))
    refusal i p =
        let z : length m.rows + 0 - f.delay - (length m.rows - f.delay) ≡ 0 = omega arith in
        record { taken = 0; filtered = 0; says = refl; count = sym z; pixels = no_lines f.width _ out }

-- B-pixels. After every list of calls, a burst of any rows with any output: what it says and leaves is packed rows of the pixel rule.
pub burst_pixels : (t : Table) (l : ℕ) (samples sums : List ℕ) → Starts t l samples sums → (cs : List Call) (rows : List ℕ) (out : List ℤ)
    → Packed (filter_of t l) (ended (answers (filter_of t l)) opened cs) rows out
    (reply_of (burst_of (ended engine (start_of t l samples sums).state cs) rows out))
unfolding engine answers
burst_pixels t l samples sums s cs rows out =
    let r = sequence_stores t l samples sums s cs in
    let m = ended (answers (filter_of t l)) opened cs in
    rw (kept t l (ended engine (start_of t l samples sums).state cs) m (rows_call rows out) r).0
    (machine_packs (filter_of t l) (settled t l) m r.fair.good rows out)
