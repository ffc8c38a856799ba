-- Assumes nothing.
use Rattle.std.proofs.Common.{◌≡◌, ◌+◌, ◌^◌, ltb, get_or}
use Rattle.arith.specs.All.{all}
use Rattle.arith.specs.Twos.{fits_signed}
use Rattle.passes.specs.Passes.{rounded}
use Rattle.passes.proofs.words.fit_wide.Given as goal

abbrev pub invariant-loop-value : goal.invariant-loop-value
invariant-loop-value l = ltb l.seen (2 ^ (l.word + l.shift)) ≡ all l.value-index (λ c. fits_signed l.word (rounded (get_or l.acc c 0) l.shift))
