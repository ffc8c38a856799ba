use Rattle.std.proofs.Common.{◌≡◌, ℕ, ◌<◌, Some, false}
use Rattle.choices.specs.Choices.{beats, rating_of}
use Rattle.choices.specs.Stores.{stored}
use Rattle.choices.proofs.marks.unbeaten.Given as goal

-- none of those passed beats it
abbrev pub invariant-loop-choice : goal.invariant-loop-choice
invariant-loop-choice l = (k : ℕ) → k < l.choice-index → beats (stored l.fn.figures k) (rating_of (Some l.own)) ≡ false
