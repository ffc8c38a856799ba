-- The pixels below the place are put.
use Rattle.std.proofs.Common.{◌≡◌, ◌++◌, ◌*◌, drop, get_or, pos}
use Rattle.arith.specs.Tab.{grid}
use Rattle.pgm.specs.Shade.{shade, byte_of}
use Rattle.pgm.proofs.shades.put.Given as goal

abbrev pub invariant-loop-k : goal.invariant-loop-k
invariant-loop-k l = l.out ≡ grid l.k 2 (λ k. byte_of (shade l.w (get_or l.pixels k (pos 0)))) ++ drop (l.k * 2) l.initial.out
