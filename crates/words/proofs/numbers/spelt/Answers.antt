-- The digits are asked of a word that has a byte.
-- Assumes nothing.
use Rattle.std.proofs.Common.{◌≡◌, ◌<◌, false, not, length, ap, ◌∙◌, rules}
use Rattle.words.proofs.Digits.{spelt_as, spelt_not}
use Rattle.words.proofs.numbers.spelt.Goals as goal

pub returns-then-not-is_empty : goal.returns-then-not-is_empty
returns-then-not-is_empty c = let h : 0 < length c.args.w.now = search rules in spelt_as _ _ h c.is_digits.ensures

pub returns-else-not-is_empty : goal.returns-else-not-is_empty
returns-else-not-is_empty c =
    let e : length c.args.w.now ≡ 0 = search rules in
    let n : not c.is_empty.result ≡ false = ap not c.if-not-is_empty.false in
    n ∙ spelt_not _ e
