-- What the call for a loss figure says.
-- Assumes nothing.
use Rattle.std.specs.Prelude.{ℕ, [], ◌∷◌, pos, Result}
use Rattle.layout.specs.declared.asking.Refusal.{Refusal}
use Rattle.layout.specs.declared.Rect.{Rect}
use Rattle.layout.specs.declared.Table.{Table}
use Rattle.limits.specs.Limits.{bits_good, drops_good}
use Rattle.layout.specs.Measure.{loss_figure}
use Rattle.layout.specs.Answers.{Said, refused, accepted, result_said, asks, first_no}

-- an answer in the rules' numbers
abbrev pub figure_said : Result ℕ Refusal → Said
figure_said v = result_said (λ n. pos n ∷ []) v

-- questions 3 and 4 on the header, then the loss figure
unfoldable pub loss_of : Table → Rect → Said
loss_of t r =
    first_no (asks 3 (bits_good t.b) ∷ asks 4 (drops_good t.b t.q1 t.q2 t.q3) ∷ []) refused (accepted (pos (loss_figure t r) ∷ []))
