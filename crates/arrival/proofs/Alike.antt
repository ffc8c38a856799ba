-- Windows and shares along lines that agree, and values that lie in the first places of others.
-- Assumes nothing.
use Rattle.std.proofs.Common.{ℕ, suc, ◌+◌, ◌*◌, ◌/◌, ◌%◌, ◌^◌, ◌<◌, ◌≡◌, ap, ap₂, cond, List, eqb, take, get_or-take}
use Rattle.arith.proofs.Sums.{sum_cong}
use Rattle.layout.specs.declared.Rect.{Rect}
use Rattle.layout.specs.Measure.{cols_of}
use Rattle.arith.specs.Part.{pos_part, neg_part}
use Rattle.passes.specs.Passes.{plus}
use Rattle.arrival.specs.Rectangles.{window_over, share_over, factor_of, with_share, with_line}

module _ (d : Rect) {f g : ℕ → ℕ} (same : (i : ℕ) → f i ≡ g i) where
  pub same_window : (s : ℕ) → window_over d f s ≡ window_over d g s
  same_window s = sum_cong (cols_of d) (λ j h. same _)

  pub same_share : (q3 i : ℕ) → share_over d q3 f i ≡ share_over d q3 g i
  unfolding share_over
  same_share q3 i =
      ap₂ (λ x y. cond (eqb q3 0) x (y / 2 ^ q3)) (ap₂ (λ x y. x + 4294967295 * y) (same _) (same _)) (same_window (suc i))

module _ (d : Rect) (q3 q : ℕ) (line : ℕ → ℕ) (n : ℕ) (acc : List ℕ) where
  pub first_share : (i : ℕ) → i < n → with_share d q3 q line (take n acc) i ≡ with_share d q3 q line acc i
  first_share i h = ap (λ a. (a + factor_of d.weight q * share_over d q3 line i) % 4294967296) (get_or-take n acc i 0 h)

  pub first_line : (c : ℕ) → c < n → with_line d q3 q line (take n acc) c ≡ with_line d q3 q line acc c
  first_line c h =
      ap (λ a. plus a (pos_part d.weight) (neg_part d.weight) (window_over d line (17 + c) / 2 ^ q3 * 2 ^ q)) (get_or-take n acc c 0 h)
