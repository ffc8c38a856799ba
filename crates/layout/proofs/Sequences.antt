-- Two engines that answer each call alike answer every list of calls alike.
-- Assumes nothing.
use Rattle.std.proofs.Common.{◌≡◌, refl, ap₂, List, [], ◌∷◌}
use Rattle.layout.specs.Answers.{Left}
use Rattle.layout.specs.Sequences.{reply_of, replies, ended}

-- the simulation law, for any engine, any machine and any calls: a relation that every call keeps, with one reply from both, makes the replies
-- to every list of calls the same, and holds after them
pub simulates : {S M C : Type 0} (does : S → C → Left S) (answers : M → C → Left M) (Follows : S → M → Type 0)
    → ((s : S) (m : M) (c : C) → Follows s m → (reply_of (does s c) ≡ reply_of (answers m c)) × Follows (does s c).state (answers m c).state)
    → (s : S) (m : M) → Follows s m → (cs : List C) → (replies does s cs ≡ replies answers m cs) × Follows (ended does s cs) (ended answers m cs)
unfolding replies ended
simulates does answers Follows kept s m f [] = (refl, f)
simulates does answers Follows kept s m f (c ∷ cs) =
    let k = kept s m c f in
    let r = simulates does answers Follows kept (does s c).state (answers m c).state k.1 cs in
    (ap₂ ◌∷◌ k.0 r.0, r.1)
