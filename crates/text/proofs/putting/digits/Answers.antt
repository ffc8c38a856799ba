-- Digit after digit from the right: what is left of the number is spelt by the places left.
-- Assumes nothing.
use mathlib.Core.Path.{subst, ◌≡◌, sym, ◌∙◌}
use borrow.Author.Tests.{lt-ltb, le-ltb}
use Rattle.text.proofs.Cells.{drop-set}
use lib.ListN.{set, length-set, length, drop}
use mathlib.Core.List.{append_assoc, List, [], ◌∷◌, ◌++◌}
use native.Mathlib.Nat.{div-lt_iff_lt-mul, pow-suc}
use Prim.Native.Nat.{zero, ◌%◌, ℕ, suc, ◌+◌, ◌-◌, ◌/◌, ◌^◌, ◌≤◌, ◌<◌}
use Rattle.text.specs.Text.{spell, decimal}
use native.Mathlib.Omega.{arith}
use Rattle.text.proofs.putting.digits.Goals as goal

-- there is room for one digit more
not_first : (i m : ℕ) → m < 10 ^ i → 10 ≤ m → 2 ≤ i
not_first zero m h k = absurd (omega arith)
not_first (suc zero) m h k = absurd (omega arith)
not_first (suc (suc i)) m h k = omega arith

fewer : (i m : ℕ) → m < 10 ^ suc i → m / 10 < 10 ^ i
fewer i m h = (div-lt_iff_lt-mul {k = 10} (omega arith)).1 (rw pow-suc at h)

-- a turn of the loop: the last digit of m goes in front of the others
turn : (k i m : ℕ) (buf : List ℕ) → k ≡ suc i → 10 ≤ m → k < length buf
    → spell i (m / 10) ++ drop (suc i) (set buf k (48 + m % 10)) ≡ spell k m ++ drop (suc k) buf
unfolding spell
turn k i m buf e h l =
    rw e
    (rw (drop-set buf (suc i) (48 + m % 10) (subst (λ j. j < length buf) e l), le-ltb m 10 h)
    (sym (append_assoc (spell i (m / 10)) ((48 + m % 10) ∷ []) (drop (suc (suc i)) buf))))

last : (k i m : ℕ) (buf : List ℕ) → k ≡ suc i → m < 10 → k < length buf → drop k (set buf k (48 + m)) ≡ spell k m ++ drop (suc k) buf
unfolding spell
last k i m buf e h l = rw e (rw (drop-set buf (suc i) (48 + m) (subst (λ j. j < length buf) e l), lt-ltb m 10 h))

pub loop-m-preserved : goal.loop-m-preserved
loop-m-preserved c = let i = c.loop-m.invariant in
    let k = c.loop-m.i in
    let m = c.loop-m.m in
    let buf = c.loop-m.buf in
    let p = not_first k m i.2 c.loop-m-test.true in
    let e : k ≡ suc (k - 1) = omega arith in (
      omega arith,
      omega arith,
      fewer (k - 1) m (subst (λ j. m < 10 ^ j) e i.2),
      turn k (k - 1) m buf e c.loop-m-test.true (omega arith) ∙ i.3,
      simp length-set i.4,
    )

pub returns : goal.returns
unfolding decimal
returns c = let i = c.loop-m.invariant in
    let k = c.loop-m.i in (
      i.0,
      i.1,
      last k (k - 1) c.loop-m.m c.loop-m.buf (omega arith) (omega arith) (omega arith) ∙ i.3,
      simp length-set i.4,
    )
