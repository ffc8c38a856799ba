-- Rectangle after rectangle is put.
-- Assumes nothing.
use Rattle.std.proofs.Common.{arith, ap, ◌∙◌, add-one}
use Rattle.arith.specs.Tab.{tab}
use Rattle.layout.specs.Contents.{rect}
use Rattle.text.proofs.Puts.{put_none, put_then}
use Rattle.showing.specs.Showing.{rect_lines}
use Rattle.showing.proofs.Rects.{lines_suc}
use Rattle.showing.proofs.lines.put_rects.Goals as goal

pub loop-k-init : goal.loop-k-init
unfolding rect_lines tab
loop-k-init c = let p = c.requires.1 in
    (put_none _ _ (omega arith), omega arith)

pub loop-k-preserved : goal.loop-k-preserved
loop-k-preserved c = let i = c.loop-k.invariant in
    let p = c.put_rect-a.ensures in
    let e = ap (λ n. rect_lines (tab n (rect c.args.t))) (add-one c.loop-k.k) ∙ lines_suc c.loop-k.k (rect c.args.t) in
    (rw e (put_then i.0 p.put), omega arith)
