-- What question 8 says of a rectangle: its edges in a frame of 16, and how many rows and columns it covers.
-- Assumes nothing.
use Rattle.std.proofs.Common.{ℕ, ◌+◌, ◌-◌, ◌≤◌, ◌<◌, arith, ◌≡◌, refl, ◌&&◌, T, leb→le, le→leb, ℤ, pos, negsuc, ◌-ℤ◌, ◌≤ℤ◌}
use Rattle.std.specs.Int.Signed.{le_z, lt_z}
use Rattle.std.proofs.Math.Facts.{and_yes}
use Rattle.arith.specs.Diff.{Diff}
use Rattle.arith.specs.Part.{pos_part}
use Rattle.arith.specs.Twos.{fits_signed}
use Rattle.arith.proofs.Ints.{diff_pos, diff_minus, diff_pos_part, le_diff, lt_diff}
use Rattle.arith.proofs.Words.{mag_fits}
use Rattle.layout.specs.declared.Rect.{Rect}
use Rattle.limits.specs.Limits.{edges_good, rect_good}
use Rattle.layout.specs.Measure.{rows_of, cols_of}

-- z raised by 16, where z is from -16 on
raise : (z : ℤ) → negsuc 15 ≤ℤ z → (p : ℕ) × Diff z p 16
raise (pos a) h = (a + 16, record { is = refl })
raise (negsuc a) h = let l = leb→le a 15 h.le in (15 - a, record { is = omega arith })

-- the lead is `lead` - 16 and the trail `trail` - 16, with trail < lead ≤ 31
pub record Edges (l t : ℤ) : Type 0 where
  pub lead : ℕ
  pub trail : ℕ
  pub lead_is : Diff l lead 16
  pub trail_is : Diff t trail 16
  pub above : trail < lead
  pub most : lead ≤ 31

pub edges : (l t : ℤ) → T (edges_good l t) → Edges l t
unfolding edges_good
edges l t h =
    let a = and_yes (le_z (negsuc 14) l) (le_z l (pos 15) && (le_z (negsuc 15) t && (le_z t (pos 14) && lt_z t l))) h in
    let b = and_yes (le_z l (pos 15)) (le_z (negsuc 15) t && (le_z t (pos 14) && lt_z t l)) a.1 in
    let c = and_yes (le_z (negsuc 15) t) (le_z t (pos 14) && lt_z t l) b.1 in
    let d = and_yes (le_z t (pos 14)) (lt_z t l) c.1 in
    let p = raise t (record { le = c.0 }) in
    let q = raise l (wider l a.0) in
    let x = lt_diff p.1 q.1 (record { lt = d.1 }) in
    let y = le_diff q.1 (diff_pos 15) (record { le = b.0 }) in
    record { lead = q.0; trail = p.0; lead_is = q.1; trail_is = p.1; above = omega arith; most = omega arith }
  where
    wider : (z : ℤ) → T (le_z (negsuc 14) z) → negsuc 15 ≤ℤ z
    wider (pos a) t = record { le = tt }
    wider (negsuc a) t = record { le = let l = leb→le a 14 t in le→leb a 15 (omega arith) }

-- how far the lead is above the trail
pub extent : {l t : ℤ} (e : Edges l t) → pos_part (l -ℤ t) + e.trail ≡ e.lead
extent e = let p = diff_pos_part (diff_minus e.lead_is e.trail_is) in let a = e.above in omega arith

-- an edge fits a signed byte
pub edge_fits : {z : ℤ} {p : ℕ} → Diff z p 16 → p ≤ 31 → T (fits_signed 8 z)
edge_fits {z = pos a} d h = let e = d.is in mag_fits 8 (pos a) (omega arith)
edge_fits {z = negsuc a} d h = let e = d.is in mag_fits 8 (negsuc a) (omega arith)

-- a rectangle that question 8 accepts
pub record RectBounds (r : Rect) : Type 0 where
  pub row : Edges r.leadrow r.trailrow
  pub col : Edges r.leadcol r.trailcol
  pub rows_pos : 1 ≤ rows_of r
  pub cols_pos : 1 ≤ cols_of r
  pub rows_most : rows_of r ≤ 31
  pub cols_most : cols_of r ≤ 31

pub rect_bounds : (r : Rect) → T (rect_good r) → RectBounds r
unfolding rect_good rows_of cols_of
rect_bounds r h =
    let b = and_yes (edges_good r.leadrow r.trailrow) (edges_good r.leadcol r.trailcol) h in
    let x = edges r.leadrow r.trailrow b.0 in
    let y = edges r.leadcol r.trailcol b.1 in
    let p = extent x in
    let q = extent y in
    record { row = x; col = y; rows_pos = omega arith; cols_pos = omega arith; rows_most = omega arith; cols_most = omega arith }
