-- A look at each byte: the gap ends before it, or goes on behind it.
use Rattle.std.proofs.Common.{sym, ◌∙◌, add-one, arith}
use Rattle.pgm.proofs.Tokens.{gap_on, gap_ends, gap_none}
use Rattle.pgm.proofs.lexing.gap.Goals as goal

pub returns-then-not-in_gap : goal.returns-then-not-in_gap
returns-then-not-in_gap c =
    let e = gap_ends c.args.bytes.now c.loop-i.i c.loop-i.comment (omega arith) (sym c.in_gap.ensures ∙ c.if-not-in_gap.true) in
    omega (arith, c.loop-i.invariant.same_end)

pub loop-i-preserved : goal.loop-i-preserved
loop-i-preserved c =
    let e = gap_on c.args.bytes.now c.loop-i.i c.loop-i.comment (omega arith) (sym c.in_gap.ensures ∙ c.if-not-in_gap.false) in
    record {
      within = omega arith;
      same_end = rw (add-one, c.in_comment-comment.ensures) (omega (arith, c.loop-i.invariant.same_end));
    }

pub returns : goal.returns
returns c =
    let e = gap_none c.args.bytes.now c.loop-i.i c.loop-i.comment (omega arith) in
    omega (arith, c.loop-i.invariant.same_end)
