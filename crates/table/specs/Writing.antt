-- What writing a table says, and what it leaves in the output.
-- Assumes nothing.
use Rattle.std.specs.Prelude.{ℕ, ◌+◌, ◌*◌, List, [], ◌∷◌, ◌++◌, leb, length, drop, pos, Result}
use Rattle.layout.specs.declared.Table.{Table}
use Rattle.layout.specs.declared.asking.Refusal.{Refusal}
use Rattle.layout.specs.Contents.{contents}
use Rattle.layout.specs.Answers.{Said, refused, accepted, result_said, asks, first_no, Wrote, wrote}
use Rattle.limits.specs.Limits.{acceptable}
use Rattle.table.specs.Format.{encode}

-- an answer in the rules' numbers
abbrev pub written_said : Result ℕ Refusal → Said
written_said v = result_said (λ n. pos n ∷ []) v

-- the length of the file of a table: 9 + 9·(rectangles)
abbrev pub file_length : Table → ℕ
file_length t = 9 + 9 * t.count

-- questions 11, and 13 on the length of the output; then the length of the file, and the file with what was there beyond it
unfoldable pub write_of : Table → (out : List ℕ) → Wrote
write_of t out =
    first_no (asks 11 (acceptable t) ∷ asks 13 (leb (file_length t) (length out)) ∷ []) (λ number place. wrote (refused number place) out)
    (wrote (accepted (pos (file_length t) ∷ [])) (encode (contents t) ++ drop (file_length t) out))
