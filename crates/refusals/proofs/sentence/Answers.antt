use Rattle.std.proofs.Common.{arith, sym}
use Rattle.refusals.proofs.Past.{no_sentence}
use Rattle.refusals.proofs.sentence.Goals as goal

pub returns-in_default : goal.returns-in_default
returns-in_default c = sym (no_sentence c.args.number (λ above. omega (arith, above)))
