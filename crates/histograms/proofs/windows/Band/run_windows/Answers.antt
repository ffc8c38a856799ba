-- `histograms::run_windows` lets the next column enter and looks for the rank, pixel after pixel.
-- Assumes nothing.
use Rattle.std.proofs.Common.{◌≡◌, ℕ, ◌+◌, ◌*◌, ◌≤◌, ◌<◌, ◌∙◌, mul-le-mul, arith, to_z-of_z, w32}
use Rattle.histograms.proofs.Slides.{slide_off_long, slide_on_long, slide_counted, slide_room, slide_leaves, holds_next, find_fits, found_is}
use Rattle.histograms.proofs.Runs.{lane_is, carried_at, carried_next}
use Rattle.histograms.proofs.windows.Band.run_windows.Goals as goal

pub slide-requires : goal.slide-requires
slide-requires c =
    let s = c.args.self.span in
    let p = c.requires in
    let i = c.loop-i.i in
    let lead : ℕ = c.args.r.from + i + s.ahead in
    let a = p.3.off_long in
    let b = p.3.on_long in
    let leaves = lane_is s p.3.off i lead (omega arith) (omega arith) in
    let enters = lane_is s p.3.on i lead (omega arith) (omega arith) in
    record {
      off_long = slide_off_long s p.0.span lead c.loop-i.invariant.holds leaves enters;
      on_long = slide_on_long s p.0.span lead c.loop-i.invariant.holds leaves enters;
      counted = slide_counted s p.0.span lead c.loop-i.invariant.holds leaves enters;
      room = slide_room s p.0.span lead c.loop-i.invariant.holds leaves enters;
    }

pub find-requires : goal.find-requires
find-requires c =
    let s = c.args.self.span in
    let p = c.requires in
    let i = c.loop-i.i in
    let lead : ℕ = c.args.r.from + i + s.ahead in
    let a = p.3.off_long in
    let b = p.3.on_long in
    let leaves = lane_is s p.3.off i lead (omega arith) (omega arith) in
    let enters = lane_is s p.3.on i lead (omega arith) (omega arith) in
    let slid = slide_leaves s p.0.span lead c.loop-i.invariant.holds leaves enters c.slide.ensures in
    find_fits s p.0.span (lead + 1) (holds_next s _ c.loop-i.window c.loop-i.invariant.holds.long slid)

pub loop-i-preserved : goal.loop-i-preserved
loop-i-preserved c =
    let s = c.args.self.span in
    let p = c.requires in
    let i = c.loop-i.i in
    let r = c.args.r in
    let lead : ℕ = r.from + i + s.ahead in
    let a = p.3.off_long in
    let b = p.3.on_long in
    let leaves = lane_is s p.3.off i lead (omega arith) (omega arith) in
    let enters = lane_is s p.3.on i lead (omega arith) (omega arith) in
    let slid = slide_leaves s p.0.span lead c.loop-i.invariant.holds leaves enters c.slide.ensures in
    let holds = holds_next s _ c.loop-i.window c.loop-i.invariant.holds.long slid in
    let e : r.from + i + 1 ≡ r.from + (i + 1) = omega arith in
    let w = p.3.in_row in
    let h : r.from + i < s.width = omega arith in
    let x = to_z-of_z {w = w32} (record { sfits = c.find.type_inv }) ∙ c.find.ensures ∙ found_is s p.0.span (lead + 1) holds in
    carried_at s e (carried_next s c.loop-i.invariant h p.2 slid x)

pub returns : goal.returns
returns c = let a = c.loop-i.auto.i-end in
    let t = c.loop-i-test.false in
    let e : c.args.r.from + c.loop-i.i ≡ c.args.r.from + c.args.r.count = omega arith in
    carried_at c.args.self.span e c.loop-i.invariant

-- a place of the first lane
first_small : (i step width : ℕ) → i < width → width ≤ 1024 → step ≤ 256 → i * step ≤ 262144
first_small i step width l w h = let m : i ≤ 1024 = omega arith in mul-le-mul m h

pub overflow_mul-p : goal.overflow_mul-p
overflow_mul-p c = let b = c.requires.3.in_row in
    let m = first_small c.loop-i.i c.args.r.on.step c.args.self.span.width (omega arith) c.requires.0.span.width_most c.requires.3.on.step_most in
    record { fits = omega arith }

pub overflow_add-p : goal.overflow_add-p
overflow_add-p c = let b = c.requires.3.in_row in
    let m = first_small c.loop-i.i c.args.r.on.step c.args.self.span.width (omega arith) c.requires.0.span.width_most c.requires.3.on.step_most in
    let n = c.requires.0.span.few in
    record { fits = omega arith }

pub offset_bounds-on-p : goal.offset_bounds-on-p
offset_bounds-on-p c = let b = c.requires.3.in_row in
    let m = first_small c.loop-i.i c.args.r.on.step c.args.self.span.width (omega arith) c.requires.0.span.width_most c.requires.3.on.step_most in
    record { fits = omega arith }
