-- The ratings by the figures that are stored of each choice.
-- Assumes nothing.
use Rattle.std.specs.Prelude.{ℕ, List, get_or, Option, None}
use Rattle.figures.specs.declared.Figures.{Figures}
use Rattle.choices.specs.Choices.{Rating, rating_of}

-- the rating of the figures at place i
abbrev pub stored : List (Option Figures) → (i : ℕ) → Rating
stored fs i = rating_of (get_or fs i None)
