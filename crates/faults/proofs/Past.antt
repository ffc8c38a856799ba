-- A number that no text gives has no sentence.
-- Assumes nothing.
use Rattle.std.proofs.Common.{◌≡◌, ℕ, zero, suc, ◌-◌, ◌<◌, ◌≤◌, [], refl, ap, ◌∙◌, arith}
use Rattle.text.specs.Ascii.{ascii, line_length, after_line, line, lines}
use Rattle.refusals.proofs.Past.{no_lines}
use Rattle.faults.specs.Faults.{own_sentences}

past : (m : ℕ) → line (suc (suc (suc (suc (suc (suc (suc (suc (suc (suc (suc (suc (suc (suc m)))))))))))))) (lines own_sentences) ≡ line m []
unfolding ascii line line_length after_line lines own_sentences
past m = refl

-- a number that no text gives has no sentence
pub no_sentence : (n : ℕ) → (0 < n → 14 ≤ n) → line n (lines own_sentences) ≡ []
unfolding ascii line line_length after_line lines own_sentences
no_sentence zero h = refl
no_sentence (suc k) h =
    let e : suc k ≡ suc (suc (suc (suc (suc (suc (suc (suc (suc (suc (suc (suc (suc (suc (k - 13)))))))))))))) = omega (arith, h (omega arith)) in
    ap (λ n. line n (lines own_sentences)) e ∙ past (k - 13) ∙ no_lines (k - 13)
