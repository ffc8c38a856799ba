-- What the answer to question 14 tells.
-- Assumes nothing.
use Prim.Native.Nat.{◌≤◌}
use mathlib.Core.Path.{◌≡◌, sym, subst}
use mathlib.Core.Bool.{true, cond}
use lib.Dec.{T, leb, eqb, leb→le}
use mir.Facts.{and_yes}
use Rattle.arith.proofs.Bools.{true_of}
use Rattle.layout.specs.Measure.{delay_of}
use Rattle.limits.specs.Limits.{acceptable}
use Rattle.rule.specs.Questions.{width_good}
use Rattle.scan.specs.declared.Scan.{Scan}
use Rattle.scan.specs.Calls.{agrees}

-- a state whose numbers agree
pub record Agreed (s : Scan) : Type 0 where
  pub table : acceptable s.table ≡ true
  pub width : width_good s.width ≡ true
  pub rows : s.rows ≤ 65535
  pub steps : s.steps ≤ delay_of s.table
  pub unstepped : T (cond s.closed true (eqb s.steps 0))

pub agreed : (s : Scan) → agrees s ≡ true → Agreed s
unfolding agrees
agreed s e =
    let a = and_yes (acceptable s.table) _ (subst T (sym e) tt) in
    let b = and_yes (width_good s.width) _ a.1 in
    let c = and_yes (leb s.rows 65535) _ b.1 in
    let d = and_yes (leb s.steps (delay_of s.table)) _ c.1 in
    record {
      table = true_of _ a.0;
      width = true_of _ b.0;
      rows = leb→le s.rows 65535 c.0;
      steps = leb→le s.steps (delay_of s.table) d.0;
      unstepped = d.1;
    }
