-- What the machine knows of a table beside its stores.
-- Assumes nothing.
use Rattle.std.proofs.Common.{◌≡◌, refl, ℕ, ◌≤◌, ◌*◌, Bool, true, false, cond, length, arith, List, ℤ}
use native.Mathlib.Nat.{mul-le-mul}
use Rattle.limits.specs.Limits.{acceptable}
use Rattle.limits.proofs.Granted.{granted}
use Rattle.arrival.specs.Arrivals.{stores_good, Fits, Leaves, arrive_of, arrival_asks}
use Rattle.arrival.proofs.Asked.{stores_bounds}
use Rattle.machine.specs.declared.Arrival.{Arrival}
use Rattle.machine.specs.Rules.{good, Fits as RowFits, taken_of}
use Rattle.layout.specs.Answers.{Left, left}
use Rattle.layout.proofs.Questions.{first_map}
use Rattle.scan.specs.declared.stored.Stored.{Stored}
use Rattle.scan.specs.Filters.{with_stores, arrives, table_rules}

answered : (b : Bool) → cond b true false ≡ true → b ≡ true
answered true e = refl
answered false e = e

-- its table is accepted
pub accepts : (f : Stored) → good table_rules f ≡ true → acceptable f.table ≡ true
accepts f e = answered (acceptable f.table) e

-- what starting clears
pub record Clears (f : Stored) (l : ℕ) : Type 0 where
  pub samples : 32 * l ≤ length f.samples.now
  pub sums : f.table.count * l ≤ length f.sums.now
  pub few : f.table.count * l ≤ 16384

pub clears : (f : Stored) (l : ℕ) → good table_rules f ≡ true → stores_good l f.table.count (length f.samples.now) (length f.sums.now) ≡ true → l ≤ 1024 → Clears f l
clears f l e h w =
    let b = stores_bounds l f.table.count (length f.samples.now) (length f.sums.now) h in
    let p = mul-le-mul (granted f.table (accepts f e)).few w in
    record { samples = b.0; sums = b.1; few = omega arith }

-- what arrives fits
pub row_fits : {f : Stored} {a : Arrival} {row : _} {out : ℕ} → RowFits table_rules f a (length row) out → Fits (arrives f a row) out
row_fits {f} {a} h =
    let b = stores_bounds a.width f.table.count (length f.samples.now) (length f.sums.now) h.stores in
    record {
      table = accepts f h.numbers;
      width_most = h.width_most;
      number_most = h.number_most;
      long = h.long;
      samples_long = b.0;
      sums_long = b.1;
      lent = h.lent;
    }

-- what an arrival leaves, with the stores in their place
abbrev pub stored_leaves : Stored → Leaves → Left Stored
stored_leaves f x = left x.said (with_stores f x.samples x.sums) x.out

pub arrived : (f : Stored) (a : Arrival) (row : List ℕ) (out : List ℤ) → stored_leaves f (arrive_of (arrives f a row) out) ≡ taken_of table_rules f a row out
unfolding arrive_of
arrived f a row out = first_map (stored_leaves f) (arrival_asks (arrives f a row)) _ _
