-- The rows that the edges reach.
-- Assumes nothing.
use Prim.Native.Nat.{ℕ, ◌^◌, ◌≤◌, ◌<◌}
use native.Mathlib.Omega.{arith}
use mathlib.Core.Path.{◌≡◌, refl, sym, ap, ◌∙◌, subst}
use mathlib.Core.Bool.{Bool, true, false, cond}
use lib.Dec.{eqb}
use lib.IntN.{ℤ, pos, negsuc, nat_abs}
use lib.Signed.{mag}
use lib.Dec.{T}
use Rattle.std.specs.Prelude.{Result, Ok, Err, Some, None}
use Rattle.std.specs.Option.{is_some}
use Rattle.std.specs.Result.{OkIff, result_ok}
use Rattle.std.specs.Int.{FitsUnsignedBits}
use borrow.Author.Tests.{le-ltb, lt-ltb}
use Rattle.histograms.specs.Arrivals.{is_given}
use Rattle.histograms.specs.Edges.{EdgeOf, counted_sample}

-- the row that an edge reaches, as it is converted: one below 0 is none, and no other is lost
module _ {X : Type 0} (given : ℕ) (e : ℤ) (r : Result ℕ X) (h : OkIff r (FitsUnsignedBits 64 e) (nat_abs e)) where
  pub edge_below : mag e < 2 ^ 63 → None ≡ result_ok r → EdgeOf given e 0 0
  unfolding is_given
  edge_below m n = go e r h m n
    where
      go : (e : ℤ) (r : Result ℕ X) → OkIff r (FitsUnsignedBits 64 e) (nat_abs e) → mag e < 2 ^ 63 → None ≡ result_ok r → EdgeOf given e 0 0
      go e (Ok x) h m n = absurd (subst T (sym (ap is_some n)) tt)
      go (pos k) (Err y) h m n = absurd (h (omega arith))
      go (negsuc k) (Err y) h m n = record { often = refl; is = λ q. absurd (omega arith) }

  pub row_is : (row : ℕ) → Some row ≡ result_ok r → e ≡ pos row
  row_is row n = go e r h n
    where
      go : (e : ℤ) (r : Result ℕ X) → OkIff r (FitsUnsignedBits 64 e) (nat_abs e) → Some row ≡ result_ok r → e ≡ pos row
      go (pos k) (Ok x) h n = let s : row ≡ x = cc in ap pos (sym (s ∙ h.1))
      go (negsuc k) (Ok x) h n = absurd h.0
      go e (Err y) h n = absurd (subst T (ap is_some n) tt)

pub edge_closing : (given row : ℕ) {e : ℤ} → e ≡ pos row → given ≤ row → EdgeOf given e 0 0
unfolding is_given
edge_closing given row i q = rw i (record { often = rw (le-ltb row given q) refl; is = λ q. absurd (omega arith) })

pub edge_given : (given row : ℕ) {e : ℤ} → e ≡ pos row → row < given → EdgeOf given e 1 row
unfolding is_given
edge_given given row i q = rw i (record { often = rw (lt-ltb row given q) refl; is = λ q. refl })

-- its sample, by how often it counts
pub counted_by : {given : ℕ} {e : ℤ} {times row : ℕ} → EdgeOf given e times row → (f : ℤ → ℕ → ℕ) (c : ℕ) → counted_sample times (f (pos row)) c ≡ cond (is_given given e) (f e c) 0
counted_by {given} {e} {times} {row} o f c = go (is_given given e) o.often
  where
    go : (b : Bool) → times ≡ cond b 1 0 → cond (eqb times 0) 0 (f (pos row) c) ≡ cond b (f e c) 0
    go true t = rw t (ap (λ z. f z c) (o.is (omega arith)))
    go false t = rw t refl
