-- `Arriving::accumulate` makes the line its running sums and reads them from the places of the rectangle's edges on: their
-- difference is the window sum of each column.
use Rattle.std.proofs.Common.{ℕ, ◌+◌, ◌≤◌, ◌<◌, le_of_eq, arith, rules, ◌≡◌, sym, ◌∙◌, List, length, get_or, take, length-take-le, get_or-take, ℤ, pos, negsuc, to_z-of_z}
use mir.Syntax.{w8, w16}
use mir.Val.{SFits}
use Rattle.arith.specs.Part.{pos_part, neg_part}
use Rattle.arith.proofs.Parts.{part_length}
use Rattle.layout.specs.declared.Rect.{Rect}
use Rattle.layout.specs.Contents.{rect}
use Rattle.limits.proofs.Bounds.{RectBounds}
use Rattle.limits.proofs.Granted.{granted}
use Rattle.arrival.specs.Rectangles.{place, scale, RunningSums}
use Rattle.arrival.proofs.Places.{lead_least, lead_most, trail_least, trail_most}
use Rattle.arrival.proofs.Reaches.{scaled_window, with_window, unpadded}
use Rattle.arrival.proofs.Alike.{first_line}
use Rattle.arrival.proofs.Written.{first_by}
use Rattle.arrival.proofs.arriving.Arriving.accumulate.Goals as goal

-- of the two parts of an integer one is 0
one-part : (z : ℤ) {above below : ℕ} → above ≡ pos_part z → below ≡ neg_part z → 0 < below → above ≡ 0
one-part (pos n) e f h = absurd (omega arith)
one-part (negsuc n) e f h = e

pub offset_bounds-self-k : goal.offset_bounds-self-k
offset_bounds-self-k c = let f = (granted _ c.args.self.now.table_good).few in
    let l = c.requires.few in
    search (rules, f, l)

pub bounds-self-k : goal.bounds-self-k
bounds-self-k c = let f = (granted _ c.args.self.now.table_good).few in
    let l = c.requires.few in
    omega arith

pub place_of-lead-requires : goal.place_of-lead-requires
place_of-lead-requires c =
    let a = c.args.self.now in
    let d : Rect = rect a.table.now c.args.k in
    let w : ℕ = length a.row.now in
    let bounds : RectBounds d = (granted _ a.table_good).bounds c.args.k c.requires.few in
    let lead-fits : SFits w8 d.leadcol = search rules in
    rw (to_z-of_z lead-fits) (lead_least bounds.col)

pub place_of-trail-requires : goal.place_of-trail-requires
place_of-trail-requires c =
    let a = c.args.self.now in
    let d : Rect = rect a.table.now c.args.k in
    let w : ℕ = length a.row.now in
    let bounds : RectBounds d = (granted _ a.table_good).bounds c.args.k c.requires.few in
    let trail-fits : SFits w8 d.trailcol = search rules in
    rw (to_z-of_z trail-fits) (trail_least bounds.col)

pub slice_bounds-accumulate-end : goal.slice_bounds-accumulate-end
slice_bounds-accumulate-end c =
    let a = c.args.self.now in
    let d : Rect = rect a.table.now c.args.k in
    let w : ℕ = length a.row.now in
    let bounds : RectBounds d = (granted _ a.table_good).bounds c.args.k c.requires.few in
    let lead-fits : SFits w8 d.leadcol = search rules in
    let lead_is : c.place_of-lead.result ≡ place d.leadcol = rw (to_z-of_z lead-fits) at c.place_of-lead.ensures.value in
    let summed : List ℕ = c.sum_line.new.line in
    let running : RunningSums w c.args.line.now summed = c.sum_line.ensures in
    let summed-long : w + 48 ≤ length summed = rw running.places c.requires.line_fits.padded.places in
    let l = lead_is in
    let m = lead_most bounds.col in
    let n = summed-long in
    let e : c.place_of-lead.result + 16 + w ≤ length summed = omega arith in
    search (rules, e)

pub slice_bounds-accumulate-end-2 : goal.slice_bounds-accumulate-end-2
slice_bounds-accumulate-end-2 c =
    let a = c.args.self.now in
    let d : Rect = rect a.table.now c.args.k in
    let w : ℕ = length a.row.now in
    let bounds : RectBounds d = (granted _ a.table_good).bounds c.args.k c.requires.few in
    let trail-fits : SFits w8 d.trailcol = search rules in
    let trail_is : c.place_of-trail.result ≡ place d.trailcol = rw (to_z-of_z trail-fits) at c.place_of-trail.ensures.value in
    let summed : List ℕ = c.sum_line.new.line in
    let running : RunningSums w c.args.line.now summed = c.sum_line.ensures in
    let summed-long : w + 48 ≤ length summed = rw running.places c.requires.line_fits.padded.places in
    let l = trail_is in
    let m = trail_most bounds.col in
    let n = summed-long in
    let e : c.place_of-trail.result + 16 + w ≤ length summed = omega arith in
    search (rules, e)

pub accumulate-requires : goal.accumulate-requires
accumulate-requires c =
    let a = c.args.self.now in
    let d : Rect = rect a.table.now c.args.k in
    let w : ℕ = length a.row.now in
    let bounds : RectBounds d = (granted _ a.table_good).bounds c.args.k c.requires.few in
    let summed : List ℕ = c.sum_line.new.line in
    let running : RunningSums w c.args.line.now summed = c.sum_line.ensures in
    let summed-long : w + 48 ≤ length summed = rw running.places c.requires.line_fits.padded.places in
    let lead-fits : SFits w8 d.leadcol = search rules in
    let lead_is : c.place_of-lead.result ≡ place d.leadcol = rw (to_z-of_z lead-fits) at c.place_of-lead.ensures.value in
    let trail-fits : SFits w8 d.trailcol = search rules in
    let trail_is : c.place_of-trail.result ≡ place d.trailcol = rw (to_z-of_z trail-fits) at c.place_of-trail.ensures.value in
    let lead-ends : c.place_of-lead.result + 16 + w ≤ length summed = let l = lead_is in let m = lead_most bounds.col in let s = summed-long in omega arith in
    let trail-ends : c.place_of-trail.result + 16 + w ≤ length summed = let t = trail_is in let m = trail_most bounds.col in let s = summed-long in omega arith in
    let weight-fits : SFits w16 d.weight = search rules in
    let p = c.sign_parts-p.ensures in
    let e = rw (to_z-of_z weight-fits) at p.above_value in
    let r = c.requires.room in
    let f = c.requires.line_fits in
    let long = length-take-le w c.args.acc.now r.acc_long in
    record {
      lead_long = le_of_eq (long ∙ sym (part_length (c.place_of-lead.result + 16) w summed lead-ends));
      trail_long = le_of_eq (long ∙ sym (part_length (c.place_of-trail.result + 16) w summed trail-ends));
      q3_most = f.q3_most;
      q_most = c.dropped-q.ensures.upper_bound;
      above_most = p.above_bound.0;
      below_most = p.above_bound.1;
      one_sign = one-part d.weight e.0 e.1;
      small =
          λ n h. rw (c.dropped-q.ensures.value, scaled_window d a.table.now.q3 (scale a.table.now) w c.args.line.now f running lead_is trail_is n (omega arith)) (f.window (17 + n));
      value_least = λ n h. let l : n < w = omega arith in rw (get_or-take w c.args.acc.now n 0 l) (r.value_least n l);
      value_at_most = λ n h. let l : n < w = omega arith in rw (get_or-take w c.args.acc.now n 0 l) (r.value_at_most n l);
    }

pub pad_line-requires : goal.pad_line-requires
pad_line-requires c =
    let a = c.args.self.now in
    let d : Rect = rect a.table.now c.args.k in
    let w : ℕ = length a.row.now in
    let summed : List ℕ = c.sum_line.new.line in
    let running : RunningSums w c.args.line.now summed = c.sum_line.ensures in
    (unpadded w c.args.line.now c.requires.line_fits.padded running, c.requires.line_fits.width_most)

pub returns-clause-acc_after : goal.returns-clause-acc_after
returns-clause-acc_after c =
    let a = c.args.self.now in
    let d : Rect = rect a.table.now c.args.k in
    let w : ℕ = length a.row.now in
    let summed : List ℕ = c.sum_line.new.line in
    let running : RunningSums w c.args.line.now summed = c.sum_line.ensures in
    let lead-fits : SFits w8 d.leadcol = search rules in
    let lead_is : c.place_of-lead.result ≡ place d.leadcol = rw (to_z-of_z lead-fits) at c.place_of-lead.ensures.value in
    let trail-fits : SFits w8 d.trailcol = search rules in
    let trail_is : c.place_of-trail.result ≡ place d.trailcol = rw (to_z-of_z trail-fits) at c.place_of-trail.ensures.value in
    let weight-fits : SFits w16 d.weight = search rules in
    let e = rw (to_z-of_z weight-fits) at c.sign_parts-p.ensures.above_value in
    let acc : List ℕ = take w c.args.acc.now in
    let first = first_line d a.table.now.q3 (scale a.table.now) (λ i. get_or c.args.line.now i 0) w c.args.acc.now in
    first_by c.args.acc.now (rw c.dropped-q.ensures.value at c.accumulate.ensures) c.requires.room.acc_long
    (λ i h. with_window d a.table.now.q3 (scale a.table.now) w c.args.line.now c.requires.line_fits running acc e.0 e.1 lead_is trail_is i h ∙ first i h)
