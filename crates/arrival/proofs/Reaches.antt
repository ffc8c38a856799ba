-- What the passes read of a line at the places of a rectangle's edges: the change of its window, or by running sums the window.
-- Assumes nothing.
use Rattle.std.proofs.Common.{ℕ, suc, ◌+◌, ◌*◌, ◌/◌, ◌%◌, ◌^◌, ◌<◌, div-one, arith, ◌≡◌, ap, ap₂, ◌∙◌, List, get_or, eq-eqb, ne_eqb}
use Rattle.std.proofs.Math.Nat.{div-add-mod}
use Rattle.arith.specs.Part.{pos_part, neg_part}
use Rattle.arith.proofs.Parts.{part, part_at}
use Rattle.arith.proofs.Residues.{same_rest}
use Rattle.arith.proofs.Sums.{sum_bound, sum_zero}
use Rattle.layout.specs.declared.Rect.{Rect}
use Rattle.layout.specs.Measure.{cols_of}
use Rattle.limits.proofs.Bounds.{RectBounds, rect_bounds}
use Rattle.passes.specs.Passes.{bound_most, less, weighed, scaled, plus}
use Rattle.arrival.specs.Rectangles.{place, window_over, change_over, share_over, factor_of, with_share, with_line, ZeroPadded, RunningSums, Unpadded, LineFits}
use Rattle.arrival.proofs.Places.{reach, within}
use Rattle.arrival.proofs.Windows.{ahead, less_is}

-- a factor times a remainder
rest_product : (a m x : ℕ) → (a + m * (x % 4294967296 / 2 ^ 0)) % 4294967296 ≡ (a + m * x) % 4294967296
rest_product a m x =
    let e = div-one (x % 4294967296) in
    let d = ap (λ y. m * y) (div-add-mod x 4294967296) in
    ap (λ y. (a + m * y) % 4294967296) e ∙ same_rest (a + m * (x % 4294967296)) (a + m * x) 4294967296 (m * (x / 4294967296)) 0 (omega arith)

module _ (d : Rect) (q3 q width : ℕ) (line : List ℕ) (f : LineFits d q3 q width line) where
  abbrev lead : ℕ
  lead = place d.leadcol

  abbrev trail : ℕ
  trail = place d.trailcol

  bounds : RectBounds d
  bounds = rect_bounds d f.edges

  abbrev at : ℕ → ℕ
  at i = get_or line i 0

  small : (s : ℕ) → window_over d at s < 4294967296
  small s =
      let b = sum_bound (cols_of d) bound_most {f = λ j. at (trail + s + j)} (λ j h. f.small _) in
      let m = bounds.cols_most in
      omega arith

  -- the running sums at the lead's place less those at the trail's
  pub window_less : {summed : List ℕ} → RunningSums width line summed → (i : ℕ) → i < width + 16
      → less (get_or summed (lead + i) 0) (get_or summed (trail + i) 0) ≡ window_over d at (suc i)
  window_less s i h =
      let r = reach d bounds.col in
      let w = within d bounds.col in
      let a = ahead at f.padded.before trail (cols_of d) w (suc i) in
      let e : suc (lead + i) ≡ trail + cols_of d + suc i = omega arith in
      let g : suc (trail + i) ≡ trail + suc i = omega arith in
      ap₂ less (s.sums (lead + i) (omega arith)) (s.sums (trail + i) (omega arith))
      ∙ rw (e, g) (less_is _ _ (window_over d at (suc i)) a (small (suc i)))

  module _ (acc : List ℕ) {m l t : ℕ} (factor : m ≡ factor_of d.weight q) (el : l ≡ lead) (et : t ≡ trail) where
    -- where q3 is 0, the change of the window is weighed
    pub weigh_change : q3 ≡ 0 → (i : ℕ) → i < width + 16
        → weighed (get_or acc i 0) m (get_or (part l (width + 16) line) i 0) (get_or (part t (width + 16) line) i 0) 0 ≡ with_share d q3 q at acc i
    unfolding share_over
    weigh_change z i h =
        rw (el, et, part_at lead (width + 16) line i h, part_at trail (width + 16) line i h, eq-eqb q3 0 z, factor)
        (rest_product (get_or acc i 0) (factor_of d.weight q) (change_over d at i))

    -- else the truncated window
    pub weigh_window : {summed : List ℕ} → RunningSums width line summed → (q3 ≡ 0 → ⊥) → (i : ℕ) → i < width + 16
        → weighed (get_or acc i 0) m (get_or (part l (width + 16) summed) i 0) (get_or (part t (width + 16) summed) i 0) q3 ≡ with_share d q3 q at acc i
    unfolding share_over
    weigh_window {summed} s z i h =
        rw (el, et, part_at lead (width + 16) summed i h, part_at trail (width + 16) summed i h, ne_eqb q3 0 z, factor)
        (ap (λ x. (get_or acc i 0 + factor_of d.weight q * (x / 2 ^ q3)) % 4294967296) (window_less s i h))

  -- the window of column c, by parts of the running sums from its place on
  pub scaled_window :
      {summed : List ℕ} → RunningSums width line summed → {l t : ℕ} → l ≡ lead → t ≡ trail → (c : ℕ) → c < width
      → scaled (part (l + 16) width summed) (part (t + 16) width summed) q3 q c ≡ window_over d at (17 + c) / 2 ^ q3 * 2 ^ q
  scaled_window {summed} s el et c h =
      let e : lead + 16 + c ≡ lead + (16 + c) = omega arith in
      let g : trail + 16 + c ≡ trail + (16 + c) = omega arith in
      let n : suc (16 + c) ≡ 17 + c = omega arith in
      rw (el, et, part_at (lead + 16) width summed c h, part_at (trail + 16) width summed c h, e, g)
      (ap (λ x. x / 2 ^ q3 * 2 ^ q) (window_less s (16 + c) (omega arith) ∙ ap (window_over d at) n))

  -- and with it the value of the column
  pub with_window :
      {summed : List ℕ} → RunningSums width line summed → (acc : List ℕ) {above below l t : ℕ}
      → above ≡ pos_part d.weight → below ≡ neg_part d.weight → l ≡ lead → t ≡ trail → (c : ℕ) → c < width
      → plus (get_or acc c 0) above below (scaled (part (l + 16) width summed) (part (t + 16) width summed) q3 q c) ≡ with_line d q3 q at acc c
  with_window s acc ea eb el et c h = rw (ea, eb, scaled_window s el et c h)

-- running sums leave zeros before the row and beyond the places they are of
pub unpadded : (width : ℕ) (line : List ℕ) {summed : List ℕ} → ZeroPadded width line → RunningSums width line summed → Unpadded width summed
unpadded width line p s =
    record {
      places = rw s.places p.places;
      before = λ i h. s.sums i (omega arith) ∙ ap (λ x. x % 4294967296) (sum_zero (suc i) {f = λ j. get_or line j 0} (λ j l. p.before j (omega arith)));
      beyond = s.beyond;
    }
