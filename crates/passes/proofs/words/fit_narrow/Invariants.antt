-- Assumes nothing.
use Rattle.std.proofs.Common.{◌≡◌, ◌^◌, ltb, get_or}
use Rattle.arith.specs.All.{all}
use Rattle.arith.specs.Twos.{fits_signed}
use Rattle.passes.specs.Passes.{rounded_word}
use Rattle.passes.proofs.words.fit_narrow.Given as goal

abbrev pub invariant-loop-value : goal.invariant-loop-value
invariant-loop-value l = ltb l.seen (2 ^ l.bits) ≡ all l.value-index (λ c. fits_signed l.word (rounded_word (get_or l.acc c 0) l.shift))
