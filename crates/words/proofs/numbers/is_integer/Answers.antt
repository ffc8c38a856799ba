-- The digits are asked behind the sign.
-- Assumes nothing.
use Rattle.std.proofs.Common.{ap, ◌∙◌}
use Rattle.words.specs.Words.{is_integer, spelt}
use Rattle.words.proofs.Digits.{spelt_behind}
use Rattle.words.proofs.numbers.is_integer.Goals as goal

pub returns : goal.returns
unfolding is_integer
returns c = c.spelt.ensures ∙ ap (λ w. spelt w 0) c.unsigned.ensures ∙ spelt_behind c.args.w.now
