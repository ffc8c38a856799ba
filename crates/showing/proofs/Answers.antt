-- What showing answers is known by what it says, and what was put is within the output.
-- Assumes nothing.
use Rattle.std.proofs.Common.{◌≡◌, ◌≤◌, ℕ, List, Result, Ok, [], ◌∷◌, pos, length, drop, length-append, ap, ◌∙◌, arith}
use Rattle.layout.specs.declared.asking.Refusal.{Refusal}
use Rattle.layout.specs.Answers.{wrote}
use Rattle.layout.proofs.Answers.{result_injective, same_natural}
use Rattle.table.specs.Format.{Outcome, refused, loaded}
use Rattle.showing.specs.Showing.{shown_text, shown_said, shown_of}

pub shown_injective : (r s : Result ℕ Refusal) → shown_said r ≡ shown_said s → r ≡ s
shown_injective = result_injective (λ n. pos n ∷ []) (λ n m e. cc)

-- the bytes that were put are in the output
pub shown_within : (o : Outcome) (out : List ℕ) {out1 : List ℕ} {n : ℕ} → wrote (shown_said (Ok n)) out1 ≡ shown_of o out → n ≤ length out1
unfolding shown_of
shown_within (refused number place) out e = absurd (let z = ap (λ x. x.said.kind) e in omega arith)
shown_within (loaded c) out {out1} {n} e =
    let m : n ≡ length (shown_text c) = same_natural (ap (λ x. x.said) e) in
    let l = ap (λ x. length x.out) e ∙ length-append (shown_text c) (drop (length (shown_text c)) out) in
    omega arith
