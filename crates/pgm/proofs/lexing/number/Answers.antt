-- A look at each byte: the number ends before it, or goes on behind it.
use Rattle.std.proofs.Common.{suc, sym, ◌∙◌, drop, add-one, arith}
use Rattle.pgm.proofs.Tokens.{digit_from, number_on, number_ends, number_none, capped}
use Rattle.pgm.proofs.lexing.number.Goals as goal

pub returns-then-not-digit : goal.returns-then-not-digit
returns-then-not-digit c =
    let e = number_ends c.args.bytes.now c.loop-i.i c.loop-i.value (omega arith) (sym c.digit.ensures ∙ c.if-not-digit.true) in
    let v = rw e.0 at c.loop-i.invariant.same_value in
    record { value_value = omega arith; end_value = omega arith }

pub next-value-requires : goal.next-value-requires
next-value-requires c = (c.loop-i.invariant.held, digit_from _ (sym c.digit.ensures ∙ c.if-not-digit.false))

pub loop-i-preserved : goal.loop-i-preserved
loop-i-preserved c =
    let b = c.args.bytes.now in
    let i = c.loop-i.i in
    let e = number_on b i c.loop-i.value (omega arith) (sym c.digit.ensures ∙ c.if-not-digit.false) in
    let v = rw e.0 at c.loop-i.invariant.same_value in
    rw add-one
    (record {
      within = omega arith;
      held = omega arith;
      same_value = capped (drop (suc i) b) c.next-value.result _ (omega arith) ∙ v;
      same_end = omega arith;
    })

pub returns : goal.returns
returns c =
    let e = number_none c.args.bytes.now c.loop-i.i c.loop-i.value (omega arith) in
    let v = rw e.0 at c.loop-i.invariant.same_value in
    record { value_value = omega arith; end_value = omega arith }
