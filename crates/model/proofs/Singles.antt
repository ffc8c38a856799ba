-- An engine that takes more calls than these: its replies to calls that stand inside its own are those of what does them alone.
-- Assumes nothing.
use mathlib.Core.Path.{◌≡◌, refl, ap}
use mathlib.Core.List.{List, [], ◌∷◌, map}
use Rattle.layout.specs.Answers.{Left}
use Rattle.layout.specs.Sequences.{reply_of, replies}

pub replies_inside : {S C D : Type 0} (does : S → C → Left S) (inside : D → C) (s : S) (cs : List D)
    → replies does s (map inside cs) ≡ replies (λ s c. does s (inside c)) s cs
unfolding replies
replies_inside does inside s [] = refl
replies_inside does inside s (c ∷ cs) = ap (λ rs. reply_of (does s (inside c)) ∷ rs) (replies_inside does inside (does s (inside c)).state cs)
