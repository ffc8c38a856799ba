-- A text with places for numbers, a byte at a time.
-- Assumes nothing.
use Prim.Native.Nat.{ℕ, suc, ◌+◌, ◌*◌, ◌≤◌, ◌<◌}
use native.Mathlib.Omega.{arith}
use mathlib.Core.Path.{◌≡◌, refl, sym, ap, ◌∙◌}
use mathlib.Core.Bool.{Bool, true, false, cond}
use mathlib.Core.List.{List, [], ◌∷◌, ◌++◌, append_assoc, append-nil}
use lib.Dec.{eqb}
use lib.ListN.{length, get_or, take, drop, length-append}
use lib.Seq.{take-suc}
use native.Mathlib.Numerals.{add-one}
use borrow.Author.Tests.{le-leb, lt-leb}
use Rattle.text.specs.Text.{Put, decimal}
use Rattle.text.specs.Ascii.{piece, filled, fill_count, fill_out}
use Rattle.text.proofs.Puts.{put_then, put_start}
use Rattle.text.proofs.Cells.{number_length}

-- the number that the next # after a text stands for
unfoldable pub up_to : List ℕ → (k : ℕ) → ℕ
up_to [] k = k
up_to (b ∷ text) k = up_to text (cond (eqb b 35) (suc k) k)

pub up_to_snoc : (text : List ℕ) (b k : ℕ) → up_to (text ++ (b ∷ [])) k ≡ cond (eqb b 35) (suc (up_to text k)) (up_to text k)
unfolding up_to
up_to_snoc [] b k = refl
up_to_snoc (a ∷ text) b k = up_to_snoc text b (cond (eqb a 35) (suc k) k)

pub filled_snoc : (text : List ℕ) (b : ℕ) (ns : List ℕ) (k : ℕ)
    → filled (text ++ (b ∷ [])) ns k ≡ filled text ns k ++ piece b (get_or ns (up_to text k) 0)
unfolding filled up_to
filled_snoc [] b ns k = append-nil (piece b (get_or ns k 0))
filled_snoc (a ∷ text) b ns k =
    ap (λ l. piece a (get_or ns k 0) ++ l) (filled_snoc text b ns (cond (eqb a 35) (suc k) k))
    ∙ sym (append_assoc (piece a (get_or ns k 0)) (filled text ns (cond (eqb a 35) (suc k) k)) _)

-- a byte more is put
pub piece_put : (o o1 o2 text ns : List ℕ) (at next k j : ℕ) → j < length text → k ≡ up_to (take j text) 0
    → Put o 0 (filled (take j text) ns 0) o1 at → Put o1 at (piece (get_or text j 0) (get_or ns k 0)) o2 next
    → Put o 0 (filled (take (j + 1) text) ns 0) o2 next
piece_put o o1 o2 text ns at next k j h e p q =
    rw (add-one, take-suc text j 0 h, filled_snoc (take j text) (get_or text j 0) ns 0, sym e) (put_then p q)

pub piece_next : (text : List ℕ) (k j : ℕ) → j < length text → k ≡ up_to (take j text) 0
    → cond (eqb (get_or text j 0) 35) (suc k) k ≡ up_to (take (j + 1) text) 0
piece_next text k j h e = rw (add-one, take-suc text j 0 h, up_to_snoc (take j text) (get_or text j 0) 0, sym e) refl

next_bound : (t : Bool) (k : ℕ) → cond t (suc k) k ≤ k + 1
next_bound true k = omega arith
next_bound false k = omega arith

pub next_le : (b k j : ℕ) → k ≤ j → cond (eqb b 35) (suc k) k ≤ j + 1
next_le b k j h = let n = next_bound (eqb b 35) k in omega arith

pub piece_number : (b n : ℕ) → eqb b 35 ≡ true → piece b n ≡ decimal n
unfolding piece
piece_number b n e = rw e refl

pub piece_byte : (b n : ℕ) → eqb b 35 ≡ false → piece b n ≡ b ∷ []
unfolding piece
piece_byte b n e = rw e refl

piece_bound : (t : Bool) (b n : ℕ) → length (cond t (decimal n) (b ∷ [])) ≤ 20
piece_bound true b n = number_length n
piece_bound false b n = omega arith

pub piece-length : (b n : ℕ) → length (piece b n) ≤ 20
unfolding piece
piece-length b n = piece_bound (eqb b 35) b n

pub filled-length : (text ns : List ℕ) (k : ℕ) → length (filled text ns k) ≤ 20 * length text
unfolding filled
filled-length [] ns k = omega arith
filled-length (b ∷ text) ns k =
    let l = length-append (piece b (get_or ns k 0)) (filled text ns (cond (eqb b 35) (suc k) k)) in
    let p = piece-length b (get_or ns k 0) in
    let h = filled-length text ns (cond (eqb b 35) (suc k) k) in
    omega arith

-- ---- with and without room

-- what a call put, where there is room
pub fill_said : (o o1 text ns : List ℕ) (n : ℕ) → n ≡ fill_count o text ns → o1 ≡ fill_out o text ns → 20 * length text ≤ length o
    → Put o 0 (filled text ns 0) o1 n
unfolding fill_count fill_out
fill_said o o1 text ns n e f h =
    let l = filled-length text ns 0 in
    let y = le-leb (20 * length text) (length o) h in
    let z : 0 + length (filled text ns 0) ≡ length (filled text ns 0) = omega arith in
    let m = rw y at e in
    record { now = (rw y at f) ∙ ap (λ k. filled text ns 0 ++ drop k o) (sym z); next_is = omega arith; room = omega arith }

pub fill_none : (o text ns : List ℕ) → length o < 20 * length text → (0 ≡ fill_count o text ns) × (o ≡ fill_out o text ns)
unfolding fill_count fill_out
fill_none o text ns h = rw (lt-leb (20 * length text) (length o) h) (refl, refl)

pub fill_put : (o o1 text ns : List ℕ) (n : ℕ) → 20 * length text ≤ length o → Put o 0 (filled text ns 0) o1 n
    → (n ≡ fill_count o text ns) × (o1 ≡ fill_out o text ns)
unfolding fill_count fill_out
fill_put o o1 text ns n h p = rw (le-leb (20 * length text) (length o) h) (put_start p)
