-- A cell more each turn.
use Rattle.std.proofs.Common.{◌≡◌, suc, length, get_or, pos, arith, rules, to_z-of_z, add-one, subst}
use mir.Syntax.{w32}
use mir.Val.{SFits}
use Rattle.text.specs.Text.{Put}
use Rattle.text.proofs.Puts.{kept, put_none, put_then, put_said}
use Rattle.text.proofs.Cells.{signed_length}
use Rattle.pgm.specs.Text.{after, cells, line_text}
use Rattle.pgm.proofs.writing.put_line.Goals as goal

pub loop-k-init : goal.loop-k-init
unfolding cells
loop-k-init c = record { put = put_none c.args.out.now 0 (omega arith); short = omega arith }

pub loop-k-preserved : goal.loop-k-preserved
unfolding cells
loop-k-preserved c =
    let pixels = c.args.pixels.now in
    let k = c.loop-k.k in
    let i = c.loop-k.invariant in
    let fits : SFits w32 (get_or pixels k (pos 0)) = search rules in
    let q = c.put_signed-at.ensures in
    let e = rw (to_z-of_z fits, c.after.ensures, add-one k) at q.value in
    let g = rw (to_z-of_z fits, c.after.ensures, add-one k) at q.out_after in
    let h = signed_length (get_or pixels k (pos 0)) (after (suc k) (length pixels)) in
    let m = kept i.put in
    let p = put_said e g (omega arith) in
    let z = p.next_is in
    record { put = rw (add-one k) (put_then i.put p); short = omega arith }

pub returns : goal.returns
unfolding line_text
returns c =
    let pixels = c.args.pixels.now in
    let e : c.loop-k.k ≡ length pixels = omega arith in
    subst (λ k. Put c.args.out.now 0 (cells (length pixels) pixels k) c.loop-k.out c.loop-k.at) e c.loop-k.invariant.put
