-- The first line, and those behind it.
-- Assumes nothing.
use Rattle.std.proofs.Common.{◌≡◌, ◌<◌, ◌∷◌, [], length, ap, ◌∙◌, rules}
use Rattle.std.proofs.lemmas.List.{nil_from_length}
use Rattle.words.specs.Words.{lines_from}
use Rattle.words.proofs.Steps.{lines_first, lines_none}
use Rattle.words.proofs.parts.LinesIterator.next.Goals as goal

pub returns-then-is_empty-clause-steps : goal.returns-then-is_empty-clause-steps
returns-then-is_empty-clause-steps c = let none = ap (lines_from []) (nil_from_length _ (search rules)) ∙ lines_none in (none, none)

first : (c : goal.After-rest-2-1) → lines_from [] c.args.self.now.0.now ≡ c.cut.result.0.now ∷ lines_from [] c.cut.result.1.now
first c = let some : 0 < length c.args.self.now.0.now = search rules in rw (c.cut.ensures.line, c.cut.ensures.rest) (lines_first _ some)

pub returns-clause-steps : goal.returns-clause-steps
returns-clause-steps c = first c

pub returns-clause-goes : goal.returns-clause-goes
returns-clause-goes c = let shorter = ap length (first c) in search rules
