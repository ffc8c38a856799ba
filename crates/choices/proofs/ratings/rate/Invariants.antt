use Rattle.std.proofs.Common.{◌≡◌, ℕ, ◌<◌, get_or, None}
use Rattle.figures.specs.Measured.{figures_of}
use Rattle.choices.specs.Choices.{with_drops}
use Rattle.choices.proofs.ratings.rate.Given as goal

-- the choices passed
abbrev pub invariant-loop-i : goal.invariant-loop-i
invariant-loop-i l = (k : ℕ) → k < l.i → get_or l.figures k None ≡ figures_of (with_drops l.fn.t k) l.fn.width
