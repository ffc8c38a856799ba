use Rattle.std.proofs.Common.{arith, sym}
use Rattle.faults.proofs.Past.{no_sentence}
use Rattle.faults.proofs.own_sentence.Goals as goal

pub returns-in_default : goal.returns-in_default
returns-in_default c = sym (no_sentence _ (λ above. omega (arith, above)))
