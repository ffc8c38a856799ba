-- The extremes, divided and rounded down, against the ends of the word, both sides in whole numbers.
use Rattle.std.proofs.Common.{sym, ◌∙◌, arith, rules, lt-ltb, le-ltb}
use Rattle.limits.proofs.Asked.{word_bounds}
use Rattle.limits.proofs.Values.{fit_unsigned}
use Rattle.limits.proofs.value.extremes_fit.Goals as goal

pub overflow_shr-high : goal.overflow_shr-high
overflow_shr-high c = let b = word_bounds _ _ (sym c.word_good.ensures ∙ c.if-not-word_good.false) in search (rules, b)

pub overflow_sub-word : goal.overflow_sub-word
overflow_sub-word c = let b = word_bounds _ _ (sym c.word_good.ensures ∙ c.if-not-word_good.false) in search (rules, b)

pub overflow_sub-word-then-high-shift : goal.overflow_sub-word-then-high-shift
overflow_sub-word-then-high-shift c =
    let b = word_bounds _ _ (sym c.word_good.ensures ∙ c.if-not-word_good.false) in search (rules, b)

pub overflow_add-word : goal.overflow_add-word
overflow_add-word c = let b = word_bounds _ _ (sym c.word_good.ensures ∙ c.if-not-word_good.false) in search (rules, b)

pub returns-then-high-shift : goal.returns-then-high-shift
returns-then-high-shift c =
    let good = sym c.word_good.ensures ∙ c.if-not-word_good.false in
    let a = c.args in
    let b = word_bounds _ _ good in
    rw (
      good,
      fit_unsigned a.high a.low a.shift a.word,
      ← (c.power.ensures.value (omega arith)),
      ← (c.power-then-high-shift.ensures.value (omega arith)),
      lt-ltb _ _ c.if-high-shift.true,
    )

pub returns-else-high-shift : goal.returns-else-high-shift
returns-else-high-shift c =
    let good = sym c.word_good.ensures ∙ c.if-not-word_good.false in
    let a = c.args in
    let b = word_bounds _ _ good in
    rw (
      good,
      fit_unsigned a.high a.low a.shift a.word,
      ← (c.power.ensures.value (omega arith)),
      le-ltb _ _ c.if-high-shift.false,
    )
