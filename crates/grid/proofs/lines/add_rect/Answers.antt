-- `grid::add_rect`: a rectangle that covers the line adds its weight between the places of its two column edges; any other changes nothing.
-- Assumes nothing.
use Rattle.std.proofs.Common.{arith, to_z-of_z, rules, not, ap}
use mir.Val.{SFits}
use mir.Syntax.{w8, w16}
use Rattle.arith.proofs.Bools.{yes, no}
use Rattle.grid.proofs.Deltas.{added, other_line, no_column}
use Rattle.grid.proofs.lines.add_rect.Goals as goal

pub returns-then-not-covered : goal.returns-then-not-covered
returns-then-not-covered c = let d = c.args.d in
    let f : SFits w8 d.leadrow = search rules in
    let g : SFits w8 d.trailrow = search rules in
    let e = rw (to_z-of_z f, to_z-of_z g) at c.covered.ensures in
    other_line d c.args.a c.requires.deltas_fit.long (no e (ap not c.if-not-covered.true))

pub returns-then-end-start : goal.returns-then-end-start
returns-then-end-start c = let d = c.args.d in
    let f : SFits w8 d.leadcol = search rules in
    let g : SFits w8 d.trailcol = search rules in
    let e = rw (to_z-of_z f) at c.place_above-end.ensures in
    let t = rw (to_z-of_z g) at c.place_above-start.ensures in
    no_column d c.args.a c.requires.deltas_fit.long (omega arith)

pub returns : goal.returns
returns c = let d = c.args.d in
    let f : SFits w8 d.leadrow = search rules in
    let g : SFits w8 d.trailrow = search rules in
    let h : SFits w8 d.leadcol = search rules in
    let j : SFits w8 d.trailcol = search rules in
    let k : SFits w16 d.weight = search rules in
    let e = rw (to_z-of_z f, to_z-of_z g) at c.covered.ensures in
    let u = rw (to_z-of_z h) at c.place_above-end.ensures in
    let t = rw (to_z-of_z j) at c.place_above-start.ensures in
    let w = c.biased_word.ensures in
    added d c.args.a (yes e (ap not c.if-not-covered.false)) (rw (to_z-of_z k) at w.diff) w.upper_bound
    (rw (t, u) at c.add_between.ensures)
