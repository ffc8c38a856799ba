-- One rectangle's line after the other.
-- Assumes nothing.
use Rattle.std.proofs.Common.{◌≡◌, Err, sym, ap, ◌∙◌, arith, rules, length-set}
use Rattle.layout.specs.Answers.{said}
use Rattle.layout.specs.Questions.{number_of}
use Rattle.layout.specs.Contents.{table_of}
use Rattle.table.specs.Format.{refused, given}
use Rattle.table.proofs.Asked.{asked_no}
use Rattle.making.specs.Steps.{lines_left}
use Rattle.making.proofs.Collecting.{collect_stops, collect_goes, free, begun, given_no, given_yes, nine_no, nine_yes, asked_yes}
use Rattle.making.proofs.rects.collect.Goals as goal

pub loop-line-init : goal.loop-line-init
loop-line-init c =
    let it = ap lines_left c.into_iter-line-iterator.ensures.into_iter_gives ∙ c.of-line-items.ensures.left in
    begun _ _ _ (c.bare-t.ensures ∙ ap table_of c.header.ensures) it

pub overflow_sub-t : goal.overflow_sub-t
overflow_sub-t c = c.loop-line.invariant.0.most

pub bounds-t-t : goal.bounds-t-t
bounds-t-t c =
    let i = c.loop-line.invariant in
    let v = rw c.rect-r.ensures at c.rect_asked.ensures in
    let f = free i.0 _ _ c.in-Some.ensures.steps (sym v ∙ ap said c.in_ok-rect_asked.was) in
    let l = i.1 in
    omega arith

pub returns-in_err-rect_asked : goal.returns-in_err-rect_asked
returns-in_err-rect_asked c =
    let v = rw c.rect-r.ensures at c.rect_asked.ensures in
    let e : c.from_residual.result ≡ Err c.in_err-rect_asked.field-0.0 = search rules in
    ap given e ∙ given_no _ (collect_stops c.loop-line.invariant.0 _ _ c.in-Some.ensures.steps (sym v ∙ ap said c.in_err-rect_asked.was))

pub loop-line-preserved : goal.loop-line-preserved
loop-line-preserved c =
    let i = c.loop-line.invariant in
    let v = rw c.rect-r.ensures at c.rect_asked.ensures in (
      rw c.rect-r.ensures (collect_goes i.0 _ _ c.in-Some.ensures.steps (sym v ∙ ap said c.in_ok-rect_asked.was)),
      length-set c.loop-line.t.rects c.loop-line.t.count c.rect-r.result ∙ i.1,
    )

pub returns-in_err-unless : goal.returns-in_err-unless
returns-in_err-unless c =
    let n = asked_no _ _ _ (sym c.unless.ensures ∙ c.in_err-unless.was) in
    let e : c.from_residual-in_err-unless.result ≡ Err c.in_err-unless.field-0.0 = search rules in
    ap given e ∙ given_no _ (ap (λ r. refused (number_of r.question) r.place) n.1 ∙ nine_no c.loop-line.invariant.0 c.in-None.ensures.steps.0 n.0)

pub returns : goal.returns
returns c =
    let k = c.loop-line.invariant.0 in
    given_yes _ k.is (nine_yes k c.in-None.ensures.steps.0 (asked_yes _ _ (sym c.unless.ensures ∙ c.in_ok-unless.was)))
