-- Laws of covered offsets, on edges raised by 128 and on the places of a line.
-- Assumes nothing.
use Rattle.std.proofs.Common.{ℕ, ◌+◌, ◌≤◌, ◌<◌, arith, ◌≡◌, sym, ap₂, ◌∙◌, ◌&&◌, ltb, leb, ltb→lt, leb→le, le→leb, lt→ltb, ℤ}
use Rattle.std.specs.Int.Signed.{le_z, lt_z}
use Rattle.arith.specs.Part.{pos_part, neg_part}
use Rattle.arith.proofs.Bools.{bool_eq}
use Rattle.arith.proofs.Ints.{diff_parts, diff_pos, diff_sub, diff_add, diff_pos_part, diff_le_z, diff_lt_z}
use Rattle.grid.specs.Grid.{offset, covers}
use Rattle.grid.specs.Lines.{place_above, SameSide}

-- tests that hold together
same_ltb : (p q r s : ℕ) → (p < q → r < s) → (r < s → p < q) → ltb p q ≡ ltb r s
same_ltb p q r s f g = bool_eq (ltb p q) (ltb r s) (λ t. lt→ltb r s (f (ltb→lt p q t))) (λ t. lt→ltb p q (g (ltb→lt r s t)))

same_leb : (p q r s : ℕ) → (p ≤ q → r ≤ s) → (r ≤ s → p ≤ q) → leb p q ≡ leb r s
same_leb p q r s f g = bool_eq (leb p q) (leb r s) (λ t. le→leb r s (f (leb→le p q t))) (λ t. le→leb p q (g (leb→le r s t)))

-- fewer lines
pub side_within : {edge : ℤ} {a end : ℕ} (r : ℕ) → r ≤ end → SameSide edge a end → SameSide edge a r
side_within r h s = record { above = λ c i j. s.above c i (omega arith); below = λ c i j. s.below c i (omega arith) }

pub covers_alike : {lead trail : ℤ} {a end : ℕ} → SameSide lead a end → SameSide trail a end → (c : ℕ) → a ≤ c → c < end
    → covers lead trail (offset c) ≡ covers lead trail (offset a)
unfolding covers
covers_alike l t c h i = ap₂ ◌&&◌ (t.above c h i) (l.below c h i)

-- an offset lies above an edge from the edge's place on
pub above_placed : (z : ℤ) (b : ℕ) → b < 31 → lt_z z (offset b) ≡ leb (place_above z) b
above_placed z b h =
    let d = diff_parts z in
    let e = diff_pos_part (diff_add d (diff_pos 16)) in
    diff_lt_z d (diff_sub b 15)
    ∙ bool_eq (ltb (pos_part z + 15) (b + neg_part z)) (leb (place_above z) b)
    (λ t. let i = ltb→lt (pos_part z + 15) (b + neg_part z) t in le→leb (place_above z) b (omega arith))
    (λ t. let i = leb→le (place_above z) b t in lt→ltb (pos_part z + 15) (b + neg_part z) (omega arith))

-- and not above it before that
pub below_placed : (z : ℤ) (b : ℕ) → b < 31 → le_z (offset b) z ≡ ltb b (place_above z)
below_placed z b h =
    let d = diff_parts z in
    let e = diff_pos_part (diff_add d (diff_pos 16)) in
    diff_le_z (diff_sub b 15) d
    ∙ bool_eq (leb (b + neg_part z) (pos_part z + 15)) (ltb b (place_above z))
    (λ t. let i = leb→le (b + neg_part z) (pos_part z + 15) t in lt→ltb b (place_above z) (omega arith))
    (λ t. let i = ltb→lt b (place_above z) t in le→leb (b + neg_part z) (pos_part z + 15) (omega arith))

-- so the covered offsets are those from the trail's place up to the lead's
pub covers_placed : (lead trail : ℤ) (b : ℕ) → b < 31 → covers lead trail (offset b) ≡ (leb (place_above trail) b && ltb b (place_above lead))
unfolding covers
covers_placed lead trail b h = ap₂ ◌&&◌ (above_placed trail b h) (below_placed lead b h)

-- lines from a to end - 1 lie on one side of an edge whose place is not between them
pub side_placed : (edge : ℤ) (a end : ℕ) → a < end → end ≤ 31 → (a < place_above edge → end ≤ place_above edge) → SameSide edge a end
side_placed edge a end l m h =
    record {
      above = λ c i j. above_placed edge c (omega arith) ∙ same_leb (place_above edge) c (place_above edge) a (λ k. grind (arith, h)) (λ k. omega arith) ∙ sym (above_placed edge a (omega arith));
      below = λ c i j. below_placed edge c (omega arith) ∙ same_ltb c (place_above edge) a (place_above edge) (λ k. omega arith) (λ k. grind (arith, h)) ∙ sym (below_placed edge a (omega arith));
    }
