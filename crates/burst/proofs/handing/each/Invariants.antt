-- The rows are given one by one: what is left to give from here comes to the whole (`Rest`), and each turn gives one row more.
use Rattle.layout.specs.Answers.{accepted, said}
use Rattle.scan.specs.Calls.{World, world, row_of}
use Rattle.burst.specs.declared.Burst.{Burst}
use Rattle.burst.specs.Bursts.{Progress, progress, feed}
use Rattle.burst.proofs.Rests.{Rest}
use Prim.Native.Nat.{ℕ, ◌-◌}
use mathlib.Core.Path.{◌≡◌}
use mathlib.Core.List.{List, []}
use lib.IntN.{ℤ}
use lib.ListN.{length}
use Rattle.burst.proofs.handing.each.Given as goal

-- a burst's answer so far, with the stores and the output
abbrev pub part_way : Burst → (samples sums : List ℕ) → List ℤ → Progress World
part_way b samples sums out = progress (said b.verdict) (world b.scan samples sums) out b.taken b.filtered

-- n rows of l samples, from none taken
abbrev pub fed : (l n : ℕ) → (rows : List ℕ) → World → List ℤ → Progress World
fed l n rows w out = feed row_of l n (progress (accepted []) w out 0 0) rows

abbrev pub invariant-loop-b : goal.invariant-loop-b
invariant-loop-b l = (length l.samples ≡ length l.initial.samples) × (length l.sums ≡ length l.initial.sums) × (length l.out ≡ length l.initial.out)
    × Rest l.width l.n l.rows (fed l.width l.n l.rows (world l.initial.b.scan l.initial.samples l.initial.sums) l.initial.out) (part_way l.b l.samples l.sums l.out)

abbrev pub decreases-loop-b : goal.decreases-loop-b
decreases-loop-b l = l.n - l.b.taken
