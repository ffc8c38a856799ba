-- How large a bound on a pixel can be.
-- Assumes nothing.
use Rattle.std.proofs.Common.{ℕ, ◌+◌, ◌-◌, ◌*◌, ◌^◌, ◌≤◌, ◌<◌, div-le_self, arith, ◌≡◌, ◌&&◌, ℤ, pos, negsuc, T, pow_mono, Some, sym, subst}
use Rattle.std.proofs.lemmas.Option.{cond_some}
use Rattle.std.proofs.Math.Facts.{and_yes}
use Rattle.arith.proofs.Bools.{true_of}
use Rattle.arith.specs.Part.{pos_part, neg_part}
use Rattle.arith.specs.Twos.{fits_signed}
use Rattle.arith.proofs.Sums.{sum_bound}
use Rattle.arith.proofs.Words.{fits_mag}
use Rattle.layout.specs.declared.Table.{Table}
use Rattle.layout.specs.Contents.{rect}
use Rattle.layout.specs.Measure.{loss_figure}
use Rattle.limits.specs.Limits.{acceptable}
use Rattle.limits.proofs.Granted.{Granted, granted}
use Rattle.rule.specs.Accuracy.{loss_under}
use Rattle.rule.specs.Questions.{width_good}
use Rattle.figures.specs.Measured.{ceil_div, pixels_above, pixels_below, measured, figures_of}
use Rattle.figures.specs.declared.Figures.{Figures}
use Rattle.figures.specs.Sizes.{share_most, shares_most}
use Rattle.figures.proofs.Bounds.{loss_most_lem, share_most_lem}

-- 2^48, which no bound on a pixel passes
abbrev pub figure_most : ℕ
figure_most = 281474976710656

part_most_lem : (z : ℤ) → T (fits_signed 16 z) → (pos_part z ≤ 32768) × (neg_part z ≤ 32768)
part_most_lem (pos n) f = let m = fits_mag 16 (pos n) f in (omega arith, omega arith)
part_most_lem (negsuc n) f = let m = fits_mag 16 (negsuc n) f in (omega arith, omega arith)

under_most : {t : Table} (g : Granted t) (part : ℤ → ℕ) → ((k : ℕ) → k < t.count → part (rect t k).weight ≤ 32768) → loss_under part t ≤ shares_most
unfolding loss_under
under_most {t} g part h =
    let s = sum_bound t.count share_most {f = λ k. part (rect t k).weight * loss_figure t (rect t k)} (λ k l. share_most_lem (h k l) (loss_most_lem g k l)) in
    let f = g.few in
    omega arith

ceil_most : {n t : ℕ} → n ≤ shares_most → t ≤ 31 → ceil_div n t ≤ figure_most
unfolding ceil_div
ceil_most {n} {t} h l = let p = pow_mono {i = t} {j = 31} l in let d = div-le_self (n + (2 ^ t - 1)) (2 ^ t) in omega arith

pub figures_most : (t : Table) (l : ℕ) (f : Figures) → figures_of t l ≡ Some f → (f.below ≤ figure_most) × (f.above ≤ figure_most)
unfolding figures_of pixels_above pixels_below
figures_most t l f e =
    let s = cond_some (acceptable t && width_good l) (measured t l) f e in
    let g = granted t (true_of _ (and_yes (acceptable t) (width_good l) (subst T (sym s.0) tt)).0) in
    let n = under_most g neg_part (λ k h. (part_most_lem (rect t k).weight (g.weight k h)).1) in
    let p = under_most g pos_part (λ k h. (part_most_lem (rect t k).weight (g.weight k h)).0) in
    subst (λ (f : Figures). (f.below ≤ figure_most) × (f.above ≤ figure_most)) s.1 (ceil_most {t = t.t} n g.shift_most, ceil_most {t = t.t} p g.shift_most)
