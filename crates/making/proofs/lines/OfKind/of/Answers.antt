-- From the first line on.
-- Assumes nothing.
use Rattle.std.proofs.Common.{ap₂}
use Rattle.words.specs.Words.{lines_of}
use Rattle.forms.specs.Forms.{kind_number}
use Rattle.making.specs.Making.{of_kind, lines_with}
use Rattle.making.proofs.lines.OfKind.of.Goals as goal

pub returns : goal.returns
unfolding lines_with
returns c = record { left = ap₂ (λ p t. of_kind (kind_number c.args.kind) p (lines_of t)) c.of.ensures.place c.of.ensures.rest }
