-- The rule of a ranked window: by the counts of its levels, by formula (2) of source 2 of docs/RULES.md, and what it depends on.
-- Assumes nothing.
use Prim.Native.Nat.{ℕ, ◌^◌, ◌≤◌, ◌<◌}
use native.Mathlib.Omega.{arith}
use mathlib.Core.Path.{◌≡◌, refl, sym, ap, ap₂, ◌∙◌, subst}
use mathlib.Core.Bool.{Bool, true, cond, ◌&&◌}
use mathlib.Core.Logic.{◌↔◌}
use lib.Dec.{leb, ltb}
use lib.IntN.{ℤ, pos, negsuc}
use lib.Pow.{pow_pos}
use Rattle.arith.specs.Sum.{sum}
use Rattle.arith.proofs.Firsts.{first_cong}
use Rattle.arith.proofs.Maxima.{largest_cong}
use Rattle.arith.proofs.Sums.{sum_cong}
use Rattle.layout.specs.declared.Rect.{Rect}
use Rattle.layout.specs.Measure.{rows_of, cols_of}
use Rattle.rule.specs.Sums.{HasBits, covered}
use Rattle.levels.specs.Levels.{ranked}
use Rattle.rankrun.specs.Rule.{Strip, inside, count_if, column_tally, tally, inside_count, not_above, of_level, largest_inside, shade_of, RankAt}
use Rattle.rankrun.proofs.Tallies.{ranked_by_rule, levels_all}
use Rattle.rankrun.proofs.Found.{Counted, rank_at, ranked_counted, ranked_empty}

module _ (s : Strip) (b : ℕ) (d : Rect) (R : ℕ) (r c : ℤ) (bits : HasBits b s.image) where
  -- what is covered, by its number in the window
  abbrev held : (j i : ℕ) → Bool
  held j i = inside s (covered r d.trailrow i) (covered c d.trailcol j)

  abbrev sample : (j i : ℕ) → ℕ
  sample j i = s.image (covered r d.trailrow i) (covered c d.trailcol j)

  low : (j i : ℕ) → sample j i < 2 ^ b
  low j i = let h = bits (covered r d.trailrow i) (covered c d.trailcol j) in let p = pow_pos b in omega arith

  -- M102-7: the rule is the level of rank R in the counts of the window's levels
  pub rule_by_counts : shade_of s b d R r c ≡ ranked (2 ^ b) R (of_level s d r c)
  unfolding shade_of tally column_tally count_if largest_inside
  rule_by_counts = sym (ranked_by_rule (cols_of d) (rows_of d) held sample (2 ^ b) R low)

  levels_inside : sum (2 ^ b) (of_level s d r c) ≡ inside_count s d r c
  unfolding tally column_tally count_if
  levels_inside = levels_all (cols_of d) (rows_of d) held sample (2 ^ b) low

  module _ (some : 1 ≤ R) where
    -- M102-8: where at least R are inside, it is the one level of formula (2)
    pub formula_2 : R ≤ inside_count s d r c → (k : ℕ) → (shade_of s b d R r c ≡ pos k) ↔ RankAt (of_level s d r c) R k
    formula_2 enough k =
        let e = rank_at (2 ^ b) R (of_level s d r c) some (subst (λ n. R ≤ n) (sym levels_inside) enough) k in
        ((λ q. e.0 (sym rule_by_counts ∙ q)), λ q. rule_by_counts ∙ e.1 q)

    -- where a sample is inside, it is the level of one that is: no shade is invented
    pub shade_covered : 1 ≤ inside_count s d r c → Counted (2 ^ b) (of_level s d r c) (shade_of s b d R r c)
    shade_covered h =
        subst (Counted (2 ^ b) (of_level s d r c)) (sym rule_by_counts)
        (ranked_counted (2 ^ b) R (of_level s d r c) some (subst (λ n. 1 ≤ n) (sym levels_inside) h))

    -- and -1 where none is
    pub shade_empty : inside_count s d r c ≡ 0 → shade_of s b d R r c ≡ negsuc 0
    shade_empty e = rule_by_counts ∙ ranked_empty (2 ^ b) R (of_level s d r c) some (levels_inside ∙ e)

-- ---- what it depends on

-- two scans are alike in row i
pub record AlikeAt (s t : Strip) (i : ℤ) : Type 0 where
  pub held : (j : ℤ) → inside s i j ≡ inside t i j
  pub same : (j : ℤ) → s.image i j ≡ t.image i j

module _ (s t : Strip) (d : Rect) (r : ℤ) (alike : (i : ℕ) → i < rows_of d → AlikeAt s t (covered r d.trailrow i)) where
  pub column_alike : (test : ℕ → Bool) (j : ℤ) → column_tally s d test r j ≡ column_tally t d test r j
  unfolding column_tally count_if
  column_alike test j = sum_cong (rows_of d) (λ i l. ap₂ (λ p y. cond (p && test y) 1 0) ((alike i l).held j) ((alike i l).same j))

  tally_alike : (test : ℕ → Bool) (c : ℤ) → tally s d test r c ≡ tally t d test r c
  unfolding tally
  tally_alike test c = sum_cong (cols_of d) (λ j l. column_alike test (covered c d.trailcol j))

  largest_alike : (c : ℤ) → largest_inside s d r c ≡ largest_inside t d r c
  unfolding largest_inside
  largest_alike c =
      largest_cong (cols_of d) (λ j l. largest_cong (rows_of d) (λ i k.
      ap₂ (λ p y. cond p y 0) ((alike i k).held (covered c d.trailcol j)) ((alike i k).same (covered c d.trailcol j))))

  pub shade_alike : (b R : ℕ) (c : ℤ) → shade_of s b d R r c ≡ shade_of t b d R r c
  unfolding shade_of
  shade_alike b R c =
      let f = first_cong (2 ^ b) {f = λ v. ltb (not_above s d v r c) R} {g = λ v. ltb (not_above t d v r c) R} (λ v l. ap (λ k. ltb k R) (tally_alike (λ y. leb y v) c)) in
      rw (tally_alike (λ y. true) c, largest_alike c, f) refl
