-- The one-pixel call.
-- Assumes nothing.
use Rattle.std.specs.Prelude.{ℕ, ◌-◌, ◌^◌, List, [], ◌∷◌, length, ℤ, pos, Result}
use Rattle.layout.specs.declared.Table.{Table}
use Rattle.layout.specs.declared.asking.Refusal.{Refusal}
use Rattle.layout.specs.Answers.{Said, refused, accepted, result_said, Question, asks, asks_each, first_no}
use Rattle.limits.specs.Limits.{acceptable}
use Rattle.rule.specs.Questions.{width_good, height_good, place_good, sample_good}
use Rattle.rule.specs.Sums.{sample_at}
use Rattle.rule.specs.Pixels.{pixel_of}

-- an answer in the rules' numbers
abbrev pub found_said : Result ℤ Refusal → Said
found_said v = result_said (λ p. p ∷ []) v

-- its questions: 11, 12, 17, 20, 18
unfoldable pub pixel_asks : Table → (l : ℕ) → List ℕ → (r c : ℕ) → List Question
pixel_asks t l xs r c =
    asks 11 (acceptable t)
    ∷ asks 12 (width_good l)
    ∷ asks 17 (height_good l (length xs))
    ∷ asks 20 (place_good l (length xs) r c)
    ∷ asks_each 18 (length xs) (sample_good (2 ^ t.b - 1) xs)
    ∷ []

-- what it says: the refusal, or the pixel
unfoldable pub pixel_answer : Table → (l : ℕ) → List ℕ → (r c : ℕ) → Said
pixel_answer t l xs r c = first_no (pixel_asks t l xs r c) refused (accepted (pixel_of t (sample_at l xs) (pos r) (pos c) ∷ []))
