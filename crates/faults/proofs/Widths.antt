-- No sentence of a text's own faults is long: computed.
-- Assumes nothing.
use Rattle.std.proofs.Common.{ℕ, ◌≤◌, refl, length}
use Rattle.text.specs.Ascii.{ascii, line, lines}
use Rattle.text.proofs.Widths.{narrow, line-narrow}
use Rattle.faults.specs.Faults.{own_sentences}

pub own_short : (k : ℕ) → length (line k (lines own_sentences)) ≤ 100
unfolding narrow ascii lines own_sentences
own_short k = line-narrow 100 (lines own_sentences) k refl
