-- A part of a line that is lent, and comes back changed: what the line then holds before it, in it and after it.
-- Assumes nothing.
use Rattle.std.proofs.Common.{ℕ, ◌+◌, ◌-◌, ◌≤◌, ◌<◌, arith, ◌≡◌, ap, ◌∙◌, List, length, get_or}
use borrow.Rule.Slice.PartMut.{put_mid}
use Rattle.arith.proofs.Parts.{part_back}
use Rattle.arith.proofs.Pastes.{paste-length, paste_before, paste_in, paste_after}

-- `&mut line[p..p + l]`, come back at ys
module _ (p l : ℕ) (line ys : List ℕ) (few : length ys ≡ l) (room : p + l ≤ length line) where
  abbrev pub back : List ℕ
  back = put_mid p (p + l - p) line ys

  within : p + length ys ≤ length line
  within = omega arith

  pub back_long : length back ≡ length line
  back_long = ap length (part_back p l line ys few) ∙ paste-length p ys line within

  pub back_before : (i : ℕ) → i < p → get_or back i 0 ≡ get_or line i 0
  back_before i h = ap (λ xs. get_or xs i 0) (part_back p l line ys few) ∙ paste_before p ys line within i h

  pub back_in : (k : ℕ) → k < l → get_or back (p + k) 0 ≡ get_or ys k 0
  back_in k h = ap (λ xs. get_or xs (p + k) 0) (part_back p l line ys few) ∙ paste_in p ys line within k (omega arith)

  pub back_after : (i : ℕ) → p + l ≤ i → get_or back i 0 ≡ get_or line i 0
  back_after i h = ap (λ xs. get_or xs i 0) (part_back p l line ys few) ∙ paste_after p ys line within i (omega arith)
