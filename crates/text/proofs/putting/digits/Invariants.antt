-- Digit after digit from the right: what is left of the number is spelt by the places left.
-- Assumes nothing.
use Rattle.text.specs.Text.{spell}
use lib.ListN.{length, drop}
use mathlib.Core.List.{◌++◌}
use mathlib.Core.Path.{◌≡◌}
use Prim.Native.Nat.{suc, ◌^◌, ◌≤◌, ◌<◌}
use Rattle.text.proofs.putting.digits.Given as goal

abbrev pub invariant-loop-m : goal.invariant-loop-m
invariant-loop-m l = (1 ≤ l.i) × (l.i ≤ 20) × (l.m < 10 ^ l.i) × (spell l.i l.m ++ drop (suc l.i) l.buf ≡ spell 20 l.n ++ drop 21 l.initial.buf) × (length l.buf ≡ 22)

abbrev pub decreases-loop-m : goal.decreases-loop-m
decreases-loop-m l = l.m
