-- A number that no call gives has no sentence.
-- Assumes nothing.
use Rattle.std.proofs.Common.{◌≡◌, ℕ, zero, suc, ◌-◌, ◌<◌, ◌≤◌, [], refl, ap, ◌∙◌, arith}
use Rattle.text.specs.Ascii.{ascii, line_length, after_line, line, lines}
use Rattle.refusals.specs.Sentences.{sentences, refusal_text}

pub no_lines : (k : ℕ) → line k [] ≡ []
unfolding line line_length after_line
no_lines zero = refl
no_lines (suc k) = no_lines k

abbrev five : ℕ → ℕ
five n = suc (suc (suc (suc (suc n))))

past : (m : ℕ) → refusal_text (suc (five (five (five (five (five m)))))) ≡ line m []
unfolding ascii line line_length after_line lines sentences refusal_text
past m = refl

pub no_sentence : (n : ℕ) → (0 < n → 26 ≤ n) → refusal_text n ≡ []
unfolding ascii line line_length after_line lines sentences refusal_text
no_sentence zero h = refl
no_sentence (suc k) h =
    let e : suc k ≡ suc (five (five (five (five (five (k - 25)))))) = omega (arith, h (omega arith)) in ap refusal_text e ∙ past (k - 25) ∙ no_lines (k - 25)
