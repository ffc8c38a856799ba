use Rattle.std.proofs.Common.{◌≡◌, ◌∙◌, sym, ap, not, suc, min, drop, length, arith, rules}
use Rattle.std.proofs.Math.Numerals.{add-one}
use Rattle.arith.proofs.Bools.{yes, no}
use Rattle.choicetext.specs.Numbers.{number_most}
use Rattle.choicetext.proofs.Digits.{digit_least, on_digit, no_digit, at_end_lem, capped, number_empty, number_other, number_read}
use Rattle.choicetext.proofs.numbers.number.Goals as goal

pub returns-then-is_empty : goal.returns-then-is_empty
returns-then-is_empty c = let e : length c.args.w.now ≡ 0 = search rules in number_empty c.args.w.now e

pub returns-then-not-digit : goal.returns-then-not-digit
returns-then-not-digit c = let i = c.loop-b.invariant in
    number_other c.args.w.now i.some (i.digits ∙ no_digit c.args.w.now c.loop-b.b-index c.loop-b-test.true (no c.digit.ensures (ap not c.if-not-digit.true)))

pub next-n-requires : goal.next-n-requires
next-n-requires c = (c.loop-b.invariant.held, digit_least _ (yes c.digit.ensures (ap not c.if-not-digit.false)))

pub loop-b-preserved : goal.loop-b-preserved
loop-b-preserved c =
    let i = c.loop-b.invariant in
    let w = c.args.w.now in
    let o = on_digit w c.loop-b.b-index c.loop-b-test.true (yes c.digit.ensures (ap not c.if-not-digit.false)) in
    let e = c.next-n.ensures in
    record {
      some = i.some;
      held = omega (arith, e);
      digits = rw add-one (i.digits ∙ o.0);
      value = rw add-one (i.value ∙ ap (min number_most) (o.1 c.loop-b.n) ∙ capped (drop (suc c.loop-b.b-index) w) _ _ (omega (arith, e)));
    }

pub returns : goal.returns
returns c =
    let i = c.loop-b.invariant in
    let w = c.args.w.now in
    let e = at_end_lem w c.loop-b.b-index c.loop-b-test.false in
    let m = i.held in
    number_read w i.some (i.digits ∙ e.0) (sym (i.value ∙ ap (min number_most) (e.1 c.loop-b.n) ∙ omega arith))
