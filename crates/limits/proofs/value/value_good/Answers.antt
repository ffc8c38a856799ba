-- Questions 3 to 5 and the count bound the numbers that question 10 works on.
use Rattle.std.proofs.Common.{sym, ◌∙◌, arith, le-leb}
use Rattle.std.proofs.lemmas.Bool.Decides.{nat_tests}
use Rattle.limits.proofs.Asked.{head_is, head_tests, head_bounds, fitting_is}
use Rattle.limits.proofs.value.value_good.Goals.{then-is_ok, else-is_ok}
use Rattle.limits.proofs.value.value_good.Goals as goal

pub extremes_good-requires-clause-head_good : goal.extremes_good-requires-clause-head_good
extremes_good-requires-clause-head_good c =
    let t = c.args.t in
    let h = head_is t.b t.q1 t.q2 t.q3 t.t t.w c.ask.result (rw c.from.ensures at c.ask.ensures) in
    head_bounds t (head_tests _ _ _ _ _ _ (sym h ∙ sym c.is_ok.ensures.value ∙ c.if-t-le16.true.0))

pub returns-then-t-le16 : goal.returns-then-t-le16
returns-then-t-le16 c =
    let t = c.args.t in
    let h = head_is t.b t.q1 t.q2 t.q3 t.t t.w c.ask.result (rw c.from.ensures at c.ask.ensures) in
    rw (fitting_is t, sym h ∙ sym c.is_ok.ensures.value ∙ c.if-t-le16.true.0, le-leb _ _ c.if-t-le16.true.1) c.extremes_good.ensures

pub returns-else-t-le16 : goal.returns-else-t-le16
returns-else-t-le16 c =
    let t = c.args.t in
    let h = head_is t.b t.q1 t.q2 t.q3 t.t t.w c.ask.result (rw c.from.ensures at c.ask.ensures) in
    let e = c.is_ok.ensures.value in
    let f = fitting_is t in
    let x = c.if-t-le16.either in
    elim c.if-is_ok.branch [
      | then-is_ok w ↦ let i = w.t-3-is in let o = w.if-is_ok.true in grind (arith, nat_tests, h, e, f, x, i, o)
      | else-is_ok w ↦ let i = w.t-3-is in let o = w.if-is_ok.false in grind (arith, nat_tests, h, e, f, x, i, o)
    ]
