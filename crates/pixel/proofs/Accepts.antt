-- What the one-pixel call's acceptance tells.
-- Assumes nothing.
use Rattle.std.proofs.Common.{ℕ, ◌≡◌, sym, subst, true, List, T, length}
use Rattle.layout.specs.declared.Table.{Table}
use Rattle.limits.specs.Limits.{acceptable}
use Rattle.layout.specs.Answers.{accepted, verdict}
use Rattle.std.proofs.Common.{[]}
use Rattle.layout.proofs.Questions.{all_yes}
use Rattle.rule.specs.Questions.{width_good, height_good, place_good}
use Rattle.rule.specs.Sums.{HasBits, sample_at}
use Rattle.rule.proofs.Asked.{has_bits}
use Rattle.pixel.specs.Call.{pixel_asks}

pub record Accepts (t : Table) (l : ℕ) (xs : List ℕ) (r c : ℕ) : Type 0 where
  pub table : acceptable t ≡ true
  pub width : width_good l ≡ true
  pub height : height_good l (length xs) ≡ true
  pub place : place_good l (length xs) r c ≡ true
  pub bits : HasBits t.b (sample_at l xs)

pub accepts : (t : Table) (l : ℕ) (xs : List ℕ) (r c : ℕ) → verdict (pixel_asks t l xs r c) ≡ accepted [] → Accepts t l xs r c
unfolding pixel_asks
accepts t l xs r c e =
    let y = all_yes (pixel_asks t l xs r c) e in
    record {
      table = y.0;
      width = y.1.0;
      height = y.1.1.0;
      place = y.1.1.1.0;
      bits = has_bits t.b l xs (subst T (sym y.1.1.1.1.0) tt);
    }
