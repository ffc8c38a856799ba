-- What the passes read of a column, lent the rows that the edges of rectangle k reach and its line of the sum store.
-- Assumes nothing.
use Rattle.std.proofs.Common.{ℕ, ◌*◌, ◌/◌, ◌^◌, ◌<◌, ◌≡◌, refl, ap, ◌∙◌, List, ℤ, pos, ◌+ℤ◌, ◌-ℤ◌, get_or}
use Rattle.arith.specs.Tab.{tab}
use Rattle.arith.proofs.Parts.{part, part_at}
use Rattle.arith.proofs.Tabs.{get_or-tab}
use Rattle.layout.specs.Contents.{rect}
use Rattle.layout.specs.Measure.{delay_of}
use Rattle.ring.specs.Ring.{row_at}
use Rattle.passes.specs.Passes.{truncated, movable_at, stepped_at, new_at}
use Rattle.arrival.specs.Arrivals.{Arrival, edge_row, cut_at, leaving, entering, stored, new_sum, sum_most, sum_good}
use Rattle.arrival.specs.Rectangles.{updated_sum, rolled_back_sum}

-- the row that an edge reaches
abbrev pub edge_line : Arrival → (edge : ℤ) → List ℕ
edge_line v edge = tab v.width (row_at v.width v.number v.row v.samples (edge_row v edge))

pub edge_line_lem :
    (v : Arrival) (d : ℕ) (z : ℤ) {r : List ℕ} → d ≡ delay_of v.table
    → r ≡ tab v.width (row_at v.width v.number v.row v.samples ((pos v.number -ℤ pos d) +ℤ z)) → r ≡ edge_line v z
unfolding edge_row
edge_line_lem v d z e f = f ∙ rw e refl

edge_at : (v : Arrival) (z : ℤ) {r : List ℕ} → r ≡ edge_line v z → (c : ℕ) → c < v.width → truncated r v.table.q1 c ≡ cut_at v z c
unfolding cut_at
edge_at v z e c h = ap (λ xs. get_or xs c 0 / 2 ^ v.table.q1) e ∙ ap (λ x. x / 2 ^ v.table.q1) (get_or-tab v.width _ c 0 h)

module _
    (v : Arrival) (k : ℕ) {off on : List ℕ} (eo : off ≡ edge_line v (rect v.table k).trailrow)
    (en : on ≡ edge_line v (rect v.table k).leadrow) (c : ℕ) (h : c < v.width) where
  abbrev sums : List ℕ
  sums = part (k * v.width) v.width v.sums

  stored_at : get_or sums c 0 ≡ stored v k c
  unfolding stored
  stored_at = part_at (k * v.width) v.width v.sums c h

  off_at : truncated off v.table.q1 c ≡ leaving v k c
  off_at = edge_at v _ eo c h

  on_at : truncated on v.table.q1 c ≡ entering v k c
  on_at = edge_at v _ en c h

  -- question 19 of the column, its truncated new sum where it holds, and its sum with both steps, and with both rolled back
  pub movable_good : {bound : ℕ} → bound ≡ sum_most v.table (rect v.table k) → movable_at sums off on bound v.table.q1 c ≡ sum_good v k c
  unfolding sum_good new_sum
  movable_good e = rw (stored_at, off_at, on_at, e)

  pub new_sum_lem : new_at sums off on v.table.q1 v.table.q2 c ≡ new_sum v k c / 2 ^ v.table.q2
  unfolding new_sum
  new_sum_lem = rw (stored_at, off_at, on_at)

  pub updated_sum_lem : stepped_at sums off on v.table.q1 c ≡ updated_sum v k c
  unfolding updated_sum
  updated_sum_lem = rw (stored_at, off_at, on_at)

  pub rolled_back_sum_lem : stepped_at sums on off v.table.q1 c ≡ rolled_back_sum v k c
  unfolding rolled_back_sum
  rolled_back_sum_lem = rw (stored_at, off_at, on_at)
