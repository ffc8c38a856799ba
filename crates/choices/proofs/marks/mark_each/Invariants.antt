use Rattle.std.proofs.Common.{◌≡◌, ℕ, ◌<◌, get_or, length, false}
use Rattle.choices.specs.Choices.{unbeaten}
use Rattle.choices.specs.Stores.{stored}
use Rattle.choices.proofs.marks.mark_each.Given as goal

-- the choices passed
abbrev pub invariant-loop-i : goal.invariant-loop-i
invariant-loop-i g l =
    let f = g.M.Flag.flag_of in
    (k : ℕ) → k < l.i → get_or l.marks k (f false) ≡ f (unbeaten (length l.fn.figures) (stored l.fn.figures) k)
