-- The stores of a started scan, and of two scans that agree on the arrivals so far.
-- Assumes nothing.
use Prim.Native.Nat.{ℕ, suc, ◌+◌, ◌*◌, ◌^◌, ◌<◌}
use native.Mathlib.Nat.{le_trans, le_of_eq, mul-le-mul_right, zero-div}
use native.Mathlib.Omega.{arith}
use mathlib.Core.Path.{◌≡◌, sym, ◌∙◌}
use mathlib.Core.Bool.{true}
use mathlib.Core.List.{List}
use lib.IntN.{ℤ, pos, negsuc, sub_ℕ, ◌+ℤ◌}
use lib.Signed.{◌≤ℤ◌}
use lib.ListN.{length}
use Rattle.arith.specs.Tab.{zeroed}
use Rattle.arith.proofs.Ints.{diff_pos, diff_add, diff_sub, le_diff}
use Rattle.arith.proofs.Passes.{pass_done, pass_length}
use Rattle.arith.proofs.Sums.{sum_zero}
use Rattle.layout.specs.declared.Table.{Table}
use Rattle.layout.specs.Contents.{rect}
use Rattle.layout.specs.Measure.{rows_of, delay_of}
use Rattle.rule.specs.Sums.{Image, covered, column_sum}
use Rattle.rule.proofs.Depends.{covered_most, lead_most, column_same}
use Rattle.arrival.specs.Arrivals.{stores_good}
use Rattle.arrival.proofs.Asked.{stores_bounds}
use Rattle.ring.specs.Ring.{Kept}
use Rattle.run.specs.Holds.{Stores}
use Rattle.ring.proofs.Kept.{kept_none}
use Rattle.model.proofs.Rows.{InFrame}

-- no arrival yet, and every column sum 0
pub stores_none :
    (t : Table) (l : ℕ) (x : Image) (samples sums : List ℕ) → InFrame l t.b x → stores_good l t.count (length samples) (length sums) ≡ true
    → Stores t l x 0 (zeroed (32 * l) samples) (zeroed (t.count * l) sums)
unfolding column_sum
stores_none t l x samples sums framed st =
    let b = stores_bounds l t.count (length samples) (length sums) st in
    record {
      samples_long = le_trans b.0 (le_of_eq (sym (pass_length (32 * l) (λ k. 0) samples b.0)));
      sums_long = le_trans b.1 (le_of_eq (sym (pass_length (t.count * l) (λ k. 0) sums b.1)));
      kept = kept_none l x _;
      carried = λ k c lk lc.
          pass_done (t.count * l) (λ k. 0) sums (k * l + c) 0 (place k c lk lc)
          ∙ sym (sum_zero (rows_of (rect t k)) (λ i li. rw (none (covered (sub_ℕ 0 (suc (delay_of t))) (rect t k).trailrow i) (pos c) (covered_most (rect t k) (sub_ℕ 0 (suc (delay_of t))) i (delay_of t) li (lead_most t k lk))) (zero-div (2 ^ t.q1))));
    }
  where
    place : (k c : ℕ) → k < t.count → c < l → k * l + c < t.count * l
    place k c lk lc = let m = mul-le-mul_right l lk in omega arith

    -- above the scan there are zeros
    none : (z j : ℤ) → z ≤ℤ (sub_ℕ 0 (suc (delay_of t)) +ℤ pos (delay_of t)) → x z j ≡ 0
    none (negsuc m) j h = framed.above m j
    none (pos e) j h = absurd (let p = le_diff (diff_pos e) (diff_add (diff_sub 0 (suc (delay_of t))) (diff_pos (delay_of t))) h in omega arith)

-- the stores after a arrivals say nothing of the rows from a on
pub stores_agree :
    (t : Table) (l : ℕ) (x y : Image) (a : ℕ) (samples sums : List ℕ) → ((i : ℕ) (j : ℤ) → x (negsuc i) j ≡ y (negsuc i) j)
    → ((e : ℕ) (j : ℤ) → e < a → x (pos e) j ≡ y (pos e) j) → Stores t l x a samples sums → Stores t l y a samples sums
unfolding Kept
stores_agree t l x y a samples sums above agree st =
    record {
      samples_long = st.samples_long;
      sums_long = st.sums_long;
      kept = λ e c h k q. st.kept e c h k q ∙ agree e (pos c) h;
      carried = λ k c lk lc.
          st.carried k c lk lc
          ∙ column_same t (rect t k) x y (sub_ℕ a (suc (delay_of t)))
          (λ i li j. same (covered (sub_ℕ a (suc (delay_of t))) (rect t k).trailrow i) j (covered_most (rect t k) (sub_ℕ a (suc (delay_of t))) i (delay_of t) li (lead_most t k lk)))
          (pos c);
    }
  where
    same : (z j : ℤ) → z ≤ℤ (sub_ℕ a (suc (delay_of t)) +ℤ pos (delay_of t)) → x z j ≡ y z j
    same (negsuc m) j h = above m j
    same (pos e) j h = agree e j (let p = le_diff (diff_pos e) (diff_add (diff_sub a (suc (delay_of t))) (diff_pos (delay_of t))) h in omega arith)
