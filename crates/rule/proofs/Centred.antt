-- A scan of 31 by 31 samples, seen from its centre: the samples that the pixel there takes by the offsets of the weight grid.
-- Assumes nothing.
use Rattle.std.proofs.Common.{ℕ, ◌+◌, ◌*◌, ◌/◌, ◌%◌, ◌≤◌, ◌<◌, mod-lt, arith, ◌≡◌, sym, ap, ◌∙◌, subst, true, [], append-nil, pos, ◌+ℤ◌, length, get_or, lt-ltb}
use Rattle.std.proofs.Math.Nat.{div-add-mod}
use Rattle.arith.specs.All.{all}
use Rattle.arith.specs.Tab.{grid}
use Rattle.arith.proofs.Alls.{all_of}
use Rattle.arith.proofs.Bools.{true_of}
use Rattle.arith.proofs.Grids.{grid_at_lem}
use Rattle.arith.proofs.Passes.{length-grid}
use Rattle.arith.proofs.Ints.{diff_pos, diff_sub, diff_add, diff_eq}
use Rattle.grid.specs.Grid.{offset}
use Rattle.rule.specs.Mended.{dead}
use Rattle.rule.specs.Questions.{sample_good}
use Rattle.rule.specs.Sums.{sample_at}
use Rattle.rule.proofs.Mended.{mended_live, small_good}

-- the place of an offset from the centre
centre : (a : ℕ) → pos 15 +ℤ offset a ≡ pos a
centre a = diff_eq (diff_add (diff_pos 15) (diff_sub a 15)) (diff_pos a) (omega arith)

module _ {top : ℕ} (lit : ℕ → ℕ → ℕ) (most : (a b : ℕ) → lit a b ≤ top) where
  at_place : (a b : ℕ) → a < 31 → b < 31 → get_or (grid 31 31 lit) (a * 31 + b) 0 ≡ lit a b
  at_place a b h l = ap (λ xs. get_or xs (a * 31 + b) 0) (sym (append-nil (grid 31 31 lit))) ∙ grid_at_lem 31 31 lit [] 0 a b h l

  -- question 18 accepts it
  pub centred_good : all (length (grid 31 31 lit)) (sample_good top (grid 31 31 lit)) ≡ true
  centred_good =
      true_of _
      (all_of (length (grid 31 31 lit)) (sample_good top (grid 31 31 lit))
      (λ k h.
      let n = length-grid 31 31 lit in
      let d = div-add-mod k 31 in
      let m = mod-lt k {m = 31} (omega arith) in
      let e : k ≡ k / 31 * 31 + k % 31 = omega arith in
      let z = ap (λ i. get_or (grid 31 31 lit) i 0) e ∙ at_place (k / 31) (k % 31) (omega arith) m in
      small_good {x = get_or (grid 31 31 lit) k 0} {m = top} (subst (λ x. x ≤ top) (sym z) (most (k / 31) (k % 31)))))

  -- the sample at an offset from the centre
  pub centred_image : top < dead → (a b : ℕ) → a < 31 → b < 31 → sample_at 31 (grid 31 31 lit) (pos 15 +ℤ offset a) (pos 15 +ℤ offset b) ≡ lit a b
  unfolding sample_at
  centred_image m a b h l =
      let s = most a b in
      rw (centre a, centre b, lt-ltb b 31 l)
      (mended_live (λ k. get_or (grid 31 31 lit) (a * 31 + k) 0) b (λ e. let z = at_place a b h l in absurd (omega arith)) ∙ at_place a b h l)
