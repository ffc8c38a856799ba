-- `Arriving::weigh` reads the line from the places of the rectangle's edges on: what enters its window and what leaves it, or where
-- the line is made its running sums their difference, the window sum.
use Rattle.std.proofs.Common.{ℕ, ◌+◌, ◌≤◌, arith, rules, ◌≡◌, ap, ◌∙◌, List, length, get_or, take, to_z-of_z}
use mir.Syntax.{w8, w16}
use mir.Val.{SFits}
use Rattle.layout.specs.declared.Rect.{Rect}
use Rattle.layout.specs.Contents.{rect}
use Rattle.limits.proofs.Bounds.{RectBounds}
use Rattle.limits.proofs.Granted.{granted}
use Rattle.arrival.specs.Rectangles.{place, factor_of, scale, RunningSums}
use Rattle.arrival.proofs.Places.{lead_least, lead_most, trail_least, trail_most}
use Rattle.arrival.proofs.Reaches.{weigh_change, weigh_window, unpadded}
use Rattle.arrival.proofs.Alike.{first_share}
use Rattle.arrival.proofs.Written.{first_by}
use Rattle.arrival.proofs.arriving.Arriving.weigh.Goals as goal

pub offset_bounds-self-k : goal.offset_bounds-self-k
offset_bounds-self-k c = let f = (granted _ c.args.self.now.table_good).few in
    let l = c.requires.few in
    search (rules, f, l)

pub bounds-self-k : goal.bounds-self-k
bounds-self-k c = let f = (granted _ c.args.self.now.table_good).few in
    let l = c.requires.few in
    omega arith

pub place_of-lead-requires : goal.place_of-lead-requires
place_of-lead-requires c =
    let a = c.args.self.now in
    let d : Rect = rect a.table.now c.args.k in
    let w : ℕ = length a.row.now in
    let bounds : RectBounds d = (granted _ a.table_good).bounds c.args.k c.requires.few in
    let lead-fits : SFits w8 d.leadcol = search rules in
    rw (to_z-of_z lead-fits) (lead_least bounds.col)

pub place_of-trail-requires : goal.place_of-trail-requires
place_of-trail-requires c =
    let a = c.args.self.now in
    let d : Rect = rect a.table.now c.args.k in
    let w : ℕ = length a.row.now in
    let bounds : RectBounds d = (granted _ a.table_good).bounds c.args.k c.requires.few in
    let trail-fits : SFits w8 d.trailcol = search rules in
    rw (to_z-of_z trail-fits) (trail_least bounds.col)

pub slice_bounds-weigh-end : goal.slice_bounds-weigh-end
slice_bounds-weigh-end c =
    let a = c.args.self.now in
    let d : Rect = rect a.table.now c.args.k in
    let w : ℕ = length a.row.now in
    let bounds : RectBounds d = (granted _ a.table_good).bounds c.args.k c.requires.few in
    let lead-fits : SFits w8 d.leadcol = search rules in
    let lead_is : c.place_of-lead.result ≡ place d.leadcol = rw (to_z-of_z lead-fits) at c.place_of-lead.ensures.value in
    let l = lead_is in
    let m = lead_most bounds.col in
    let n = c.requires.line_fits.padded.places in
    let e : c.place_of-lead.result + (w + 16) ≤ length c.args.line.now = omega arith in
    search (rules, e)

pub slice_bounds-weigh-end-then-q3-eq0 : goal.slice_bounds-weigh-end-then-q3-eq0
slice_bounds-weigh-end-then-q3-eq0 c =
    let a = c.args.self.now in
    let d : Rect = rect a.table.now c.args.k in
    let w : ℕ = length a.row.now in
    let bounds : RectBounds d = (granted _ a.table_good).bounds c.args.k c.requires.few in
    let trail-fits : SFits w8 d.trailcol = search rules in
    let trail_is : c.place_of-trail.result ≡ place d.trailcol = rw (to_z-of_z trail-fits) at c.place_of-trail.ensures.value in
    let l = trail_is in
    let m = trail_most bounds.col in
    let n = c.requires.line_fits.padded.places in
    let e : c.place_of-trail.result + (w + 16) ≤ length c.args.line.now = omega arith in
    search (rules, e)

pub slice_bounds-weigh-end-else-q3-eq0 : goal.slice_bounds-weigh-end-else-q3-eq0
slice_bounds-weigh-end-else-q3-eq0 c =
    let a = c.args.self.now in
    let d : Rect = rect a.table.now c.args.k in
    let w : ℕ = length a.row.now in
    let bounds : RectBounds d = (granted _ a.table_good).bounds c.args.k c.requires.few in
    let lead-fits : SFits w8 d.leadcol = search rules in
    let lead_is : c.place_of-lead.result ≡ place d.leadcol = rw (to_z-of_z lead-fits) at c.place_of-lead.ensures.value in
    let summed : List ℕ = c.sum_line.new.line in
    let running : RunningSums w c.args.line.now summed = c.sum_line.ensures in
    let summed-long : w + 48 ≤ length summed = rw running.places c.requires.line_fits.padded.places in
    let l = lead_is in
    let m = lead_most bounds.col in
    let n = summed-long in
    let e : c.place_of-lead.result + (w + 16) ≤ length summed = omega arith in
    search (rules, e)

pub slice_bounds-weigh-end-else-q3-eq0-2 : goal.slice_bounds-weigh-end-else-q3-eq0-2
slice_bounds-weigh-end-else-q3-eq0-2 c =
    let a = c.args.self.now in
    let d : Rect = rect a.table.now c.args.k in
    let w : ℕ = length a.row.now in
    let bounds : RectBounds d = (granted _ a.table_good).bounds c.args.k c.requires.few in
    let trail-fits : SFits w8 d.trailcol = search rules in
    let trail_is : c.place_of-trail.result ≡ place d.trailcol = rw (to_z-of_z trail-fits) at c.place_of-trail.ensures.value in
    let summed : List ℕ = c.sum_line.new.line in
    let running : RunningSums w c.args.line.now summed = c.sum_line.ensures in
    let summed-long : w + 48 ≤ length summed = rw running.places c.requires.line_fits.padded.places in
    let l = trail_is in
    let m = trail_most bounds.col in
    let n = summed-long in
    let e : c.place_of-trail.result + (w + 16) ≤ length summed = omega arith in
    search (rules, e)

pub pad_line-requires : goal.pad_line-requires
pad_line-requires c =
    let a = c.args.self.now in
    let d : Rect = rect a.table.now c.args.k in
    let w : ℕ = length a.row.now in
    let summed : List ℕ = c.sum_line.new.line in
    let running : RunningSums w c.args.line.now summed = c.sum_line.ensures in
    (unpadded w c.args.line.now c.requires.line_fits.padded running, c.requires.line_fits.width_most)

pub returns-then-q3-eq0-clause-acc_after : goal.returns-then-q3-eq0-clause-acc_after
returns-then-q3-eq0-clause-acc_after c =
    let a = c.args.self.now in
    let d : Rect = rect a.table.now c.args.k in
    let w : ℕ = length a.row.now in
    let weight-fits : SFits w16 d.weight = search rules in
    let factor-is : c.factor-m.result ≡ factor_of d.weight (scale a.table.now) = rw (to_z-of_z weight-fits) at c.factor-m.ensures ∙ ap (factor_of d.weight) c.dropped-q.ensures.value in
    let lead-fits : SFits w8 d.leadcol = search rules in
    let lead_is : c.place_of-lead.result ≡ place d.leadcol = rw (to_z-of_z lead-fits) at c.place_of-lead.ensures.value in
    let trail-fits : SFits w8 d.trailcol = search rules in
    let trail_is : c.place_of-trail.result ≡ place d.trailcol = rw (to_z-of_z trail-fits) at c.place_of-trail.ensures.value in
    let acc : List ℕ = take (w + 16) c.args.acc.now in
    let first = first_share d a.table.now.q3 (scale a.table.now) (λ i. get_or c.args.line.now i 0) (w + 16) c.args.acc.now in
    first_by c.args.acc.now c.weigh.ensures c.requires.acc_long
    (λ i h. weigh_change d a.table.now.q3 (scale a.table.now) w c.args.line.now c.requires.line_fits acc factor-is lead_is trail_is c.if-q3-eq0.true i h ∙ first i h)

pub returns-else-q3-eq0-clause-acc_after : goal.returns-else-q3-eq0-clause-acc_after
returns-else-q3-eq0-clause-acc_after c =
    let a = c.args.self.now in
    let d : Rect = rect a.table.now c.args.k in
    let w : ℕ = length a.row.now in
    let weight-fits : SFits w16 d.weight = search rules in
    let factor-is : c.factor-m.result ≡ factor_of d.weight (scale a.table.now) = rw (to_z-of_z weight-fits) at c.factor-m.ensures ∙ ap (factor_of d.weight) c.dropped-q.ensures.value in
    let lead-fits : SFits w8 d.leadcol = search rules in
    let lead_is : c.place_of-lead.result ≡ place d.leadcol = rw (to_z-of_z lead-fits) at c.place_of-lead.ensures.value in
    let trail-fits : SFits w8 d.trailcol = search rules in
    let trail_is : c.place_of-trail.result ≡ place d.trailcol = rw (to_z-of_z trail-fits) at c.place_of-trail.ensures.value in
    let summed : List ℕ = c.sum_line.new.line in
    let running : RunningSums w c.args.line.now summed = c.sum_line.ensures in
    let acc : List ℕ = take (w + 16) c.args.acc.now in
    let first = first_share d a.table.now.q3 (scale a.table.now) (λ i. get_or c.args.line.now i 0) (w + 16) c.args.acc.now in
    first_by c.args.acc.now c.weigh-else-q3-eq0.ensures c.requires.acc_long
    (λ i h. weigh_window d a.table.now.q3 (scale a.table.now) w c.args.line.now c.requires.line_fits acc factor-is lead_is trail_is running c.if-q3-eq0.false i h ∙ first i h)
