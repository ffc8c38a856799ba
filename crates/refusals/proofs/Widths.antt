-- No sentence is long: computed.
-- Assumes nothing.
use Prim.Native.Nat.{ℕ, ◌≤◌}
use mathlib.Core.Path.{refl}
use lib.ListN.{length}
use Rattle.text.specs.Ascii.{ascii, lines}
use Rattle.text.proofs.Widths.{narrow, line-narrow}
use Rattle.refusals.specs.Sentences.{sentences, refusal_text}

pub words_short : (n : ℕ) → length (refusal_text n) ≤ 100
unfolding narrow ascii lines sentences refusal_text
words_short n = line-narrow 100 (lines sentences) n refl
