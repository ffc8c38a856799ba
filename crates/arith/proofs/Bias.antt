-- Signed numbers raised by half of a range.
-- Assumes nothing.
use Rattle.std.proofs.Common.{ℕ, suc, ◌+◌, ◌-◌, ◌<◌, arith, ◌≡◌, refl, ℤ, pos, negsuc, ◌+ℤ◌}
use Rattle.std.specs.Int.Signed.{mag}
use Rattle.arith.specs.Diff.{Diff}
use Rattle.arith.proofs.Ints.{diff_sub, diff_pos, diff_eq}

-- z + h is a natural number below 2h
pub record Raised (z : ℤ) (h : ℕ) : Type 0 where
  pub sum : ℕ
  pub is : z +ℤ pos h ≡ pos sum
  pub less : Diff z sum h
  pub small : sum < h + h

pub raised : (z : ℤ) (h : ℕ) → mag z < h → Raised z h
raised (pos a) h l = record { sum = a + h; is = refl; less = record { is = refl }; small = omega arith }
raised (negsuc a) h l =
    record {
      sum = h - suc a;
      is = diff_eq (diff_sub h (suc a)) (diff_pos (h - suc a)) (omega arith);
      less = record { is = omega arith };
      small = omega arith;
    }
