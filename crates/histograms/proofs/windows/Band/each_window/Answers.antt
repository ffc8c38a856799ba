-- `histograms::each_window` does run after run, each of one pixel at least.
-- Assumes nothing.
use Prim.Native.Nat.{◌+◌}
use native.Mathlib.Omega.{arith}
use mathlib.Core.Path.{◌≡◌, sym, subst}
use Rattle.histograms.specs.Spans.{Holds}
use Rattle.histograms.proofs.Slides.{holds_next}
use Rattle.histograms.proofs.Runs.{reached_at, none_reached}
use Rattle.histograms.proofs.windows.Band.each_window.Goals as goal

pub loop-c-init : goal.loop-c-init
loop-c-init c = (omega arith, none_reached c.args.self.span c.args.out.now c.requires.2 c.requires.1)

pub run_windows-requires : goal.run_windows-requires
run_windows-requires c = let s = c.args.self.span in
    let e = c.run_of-r.ensures in
    let h = holds_next s (c.loop-c.c + s.ahead) c.args.window.now c.requires.1.long c.loop-c.invariant.1.is in
    let w = subst (λ k. Holds s c.args.self.counts.now (k + s.ahead) c.loop-c.window) (sym e.1) h in
    (c.requires.0, w, rw c.loop-c.invariant.1.long c.requires.2, e.0)

pub loop-c-preserved : goal.loop-c-preserved
loop-c-preserved c = let r = c.run_of-r.result in
    let e = c.run_of-r.ensures in
    let a = e.1 in
    let b = e.0.in_row in
    let p : r.from + r.count ≡ c.loop-c.c + r.count = omega arith in
    let k = c.run_windows.ensures.carries c.args.out.now c.args.window.now (reached_at c.args.self.span (sym a) c.loop-c.invariant.1) in
    (omega arith, reached_at c.args.self.span p k)
