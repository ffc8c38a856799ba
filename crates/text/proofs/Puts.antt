-- Laws of `Put`: one text after the other.
-- Assumes nothing.
use Prim.Native.Nat.{ℕ, ◌+◌, ◌≤◌, ◌<◌}
use native.Mathlib.Omega.{arith}
use mathlib.Core.Path.{◌≡◌, refl, sym, ap, ap₂, ◌∙◌}
use mathlib.Core.List.{List, [], ◌++◌, append_assoc, append-nil}
use lib.ListN.{length, take, drop, length-append, length-drop, take-append-drop}
use lib.Seq.{take_at, drop_at, drop-drop, length-take-le}
use borrow.Author.Tests.{le-leb, lt-leb}
use Rattle.text.specs.Text.{Put, put_text, put_end}

module _ {o o1 s : List ℕ} {a b : ℕ} (p : Put o a s o1 b) where
  starts : a ≤ length o
  starts = let r = p.room in let n = p.next_is in omega arith

  head_length : length (take a o ++ s) ≡ b
  head_length = let l = length-append (take a o) s in let t = length-take-le a o starts in let n = p.next_is in omega arith

  pub before : take b o1 ≡ take a o ++ s
  before = rw p.now (take_at (take a o ++ s) (drop (a + length s) o) b head_length)

  pub after : drop b o1 ≡ drop b o
  after = rw p.now (drop_at (take a o ++ s) (drop (a + length s) o) b head_length) ∙ ap (λ n. drop n o) (sym p.next_is)

  pub kept : length o1 ≡ length o
  kept =
      ap length p.now
      ∙ (let l = length-append (take a o ++ s) (drop (a + length s) o) in
      let h = head_length in
      let d = length-drop (a + length s) o in
      let n = p.next_is in
      let r = p.room in
      omega arith)

pub put_none : (o : List ℕ) (a : ℕ) → a ≤ length o → Put o a [] o a
put_none o a h =
    let z : a + 0 ≡ a = omega arith in
    record {
      now = sym (ap (λ n. take a o ++ [] ++ drop n o) z ∙ ap (λ l. l ++ drop a o) (append-nil (take a o)) ∙ take-append-drop a o);
      next_is = omega arith;
      room = h;
    }

pub put_then : {o o1 o2 s t : List ℕ} {a b c : ℕ} → Put o a s o1 b → Put o1 b t o2 c → Put o a (s ++ t) o2 c
put_then {o} {o1} {o2} {s} {t} {a} {b} {c} p q =
    let l = length-append s t in
    let n = p.next_is in
    let m = q.next_is in
    let e : b + length t ≡ a + length (s ++ t) = omega arith in
    record {
      now =
          q.now
          ∙ ap₂ (λ x y. x ++ t ++ y) (before p)
          (sym (drop-drop (length t) b o1) ∙ ap (drop (length t)) (after p) ∙ drop-drop (length t) b o ∙ ap (λ k. drop k o) e)
          ∙ ap (λ x. x ++ drop (a + length (s ++ t)) o) (append_assoc (take a o) s t);
      next_is = omega arith;
      room = let r = q.room in let k = kept p in omega arith;
    }

-- ---- with and without room

pub put_text_lem : (o : List ℕ) (a : ℕ) (s : List ℕ) → a + length s ≤ length o → Put o a s (put_text o a s) (put_end o a s)
unfolding put_text put_end
put_text_lem o a s h = rw (le-leb (a + length s) (length o) h) (record { now = refl; next_is = refl; room = h })

pub no_room : (o : List ℕ) (a : ℕ) (s : List ℕ) → length o < a + length s → (a ≡ put_end o a s) × (o ≡ put_text o a s)
unfolding put_text put_end
no_room o a s h = rw (lt-leb (a + length s) (length o) h) (refl, refl)

pub put_is : {o o1 s : List ℕ} {a b : ℕ} → Put o a s o1 b → (b ≡ put_end o a s) × (o1 ≡ put_text o a s)
unfolding put_text put_end
put_is {o} {o1} {s} {a} {b} p =
    let r = p.room in
    let n = p.next_is in
    rw (le-leb (a + length s) (length o) (omega arith)) (p.next_is, p.now)

-- what a call put, where there is room
pub put_said :
    {o o1 s : List ℕ} {a b : ℕ} → b ≡ put_end o a s → o1 ≡ put_text o a s → a + length s ≤ length o → Put o a s o1 b
put_said {o} {o1} {s} {a} {b} e f h = rw (e, f) (put_text_lem o a s h)

-- a text at the start
pub put_start : {o o1 s : List ℕ} {b : ℕ} → Put o 0 s o1 b → (b ≡ length s) × (o1 ≡ s ++ drop (length s) o)
put_start {o} {o1} {s} {b} p =
    let n = p.next_is in
    let z : 0 + length s ≡ length s = omega arith in
    (omega arith, p.now ∙ ap (λ k. s ++ drop k o) z)
