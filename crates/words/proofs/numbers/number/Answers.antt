-- The number behind the sign.
-- Assumes nothing.
use Rattle.std.proofs.Common.{min, drop, ap, ◌∙◌}
use Rattle.pgm.specs.Grammar.{number}
use Rattle.words.specs.Words.{size, sign}
use Rattle.words.proofs.numbers.number.Goals as goal

pub returns-clause-size_value : goal.returns-clause-size_value
unfolding size
returns-clause-size_value c =
    c.number.ensures.value_value ∙ ap (λ w. min 65536 (number 0 w)) c.unsigned.ensures
    ∙ ap (λ w. min 65536 (number 0 (drop (sign w) w))) c.word-w.ensures.value
