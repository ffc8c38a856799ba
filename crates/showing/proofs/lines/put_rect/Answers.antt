-- Lead, trail and weight, one after the other.
-- Assumes nothing.
use Rattle.std.proofs.Common.{FitsSigned, w8, w16, rules}
use Rattle.std.proofs.Math.Facts.{to_z-of_z}
use Rattle.text.specs.Ascii.{ascii}
use Rattle.text.proofs.Puts.{put_then}
use Rattle.showing.specs.Showing.{rect_line}
use Rattle.showing.proofs.lines.put_rect.Goals as goal

pub returns-clause-put : goal.returns-clause-put
unfolding ascii rect_line
returns-clause-put c =
    let r = c.args.r in
    let f : FitsSigned w8 r.leadrow = search rules in
    let g : FitsSigned w8 r.leadcol = search rules in
    let h : FitsSigned w8 r.trailrow = search rules in
    let i : FitsSigned w8 r.trailcol = search rules in
    let j : FitsSigned w16 r.weight = search rules in
    let x = simp (to_z-of_z f, to_z-of_z g, to_z-of_z h, to_z-of_z i) at c.put_pair-a.ensures in
    let y = simp (to_z-of_z f, to_z-of_z g, to_z-of_z h, to_z-of_z i) at c.put_pair-a-2.ensures in
    let z = rw (to_z-of_z j) at c.put_signed.ensures in
    put_then (put_then x.put y.put) z.put
