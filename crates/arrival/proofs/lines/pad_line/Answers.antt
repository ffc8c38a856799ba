-- `arrival::pad_line` writes zeros into the 16 places after the row, the only ones that may not be padded.
-- Assumes nothing.
use Rattle.std.proofs.Common.{ℕ, ◌+◌, ◌-◌, ◌≤◌, ◌<◌, arith, ◌≡◌, ap, ◌∙◌, Bool, true, false, not, List, T, ltb, ltb→lt, nltb→le, length, get_or, replicate}
use Rattle.std.proofs.lemmas.List.{length-replicate, get_or-replicate}
use borrow.Rule.Slice.PartMut.{put_mid}
use Rattle.arith.proofs.Parts.{part, part_length}
use Rattle.arrival.specs.Rectangles.{ZeroPadded, Unpadded}
use Rattle.arrival.proofs.Padded.{back_long, back_before, back_in, back_after}
use Rattle.arrival.proofs.lines.pad_line.Goals as goal

module _ (width : ℕ) (line : List ℕ) (loose : Unpadded width line) (ys : List ℕ) (is : ys ≡ replicate (length (part (32 + width) 16 line)) 0) where
  room : 32 + width + 16 ≤ length line
  room = let l = loose.places in omega arith

  lent-long : length (part (32 + width) 16 line) ≡ 16
  lent-long = part_length (32 + width) 16 line room

  few : length ys ≡ 16
  few = ap length is ∙ length-replicate (length (part (32 + width) 16 line)) 0 ∙ lent-long

  abbrev came : List ℕ
  came = put_mid (32 + width) (32 + width + 16 - (32 + width)) line ys

  after : (i : ℕ) → 32 + width ≤ i → get_or came i 0 ≡ 0
  after i h = go (ltb i (width + 48)) (ltb→lt i (width + 48)) (nltb→le i (width + 48))
    where
      go : (c : Bool) → (T c → i < width + 48) → (T (not c) → width + 48 ≤ i) → get_or came i 0 ≡ 0
      go true y n =
          let l = y tt in
          let e : i ≡ 32 + width + (i - (32 + width)) = omega arith in
          let k : i - (32 + width) < 16 = omega arith in
          ap (λ m. get_or came m 0) e ∙ back_in (32 + width) 16 line ys few room (i - (32 + width)) k
          ∙ ap (λ xs. get_or xs (i - (32 + width)) 0) is ∙ get_or-replicate (length (part (32 + width) 16 line)) (i - (32 + width)) 0 0 (let n = lent-long in omega arith)
      go false y n = let l = n tt in back_after (32 + width) 16 line ys few room i (omega arith) ∙ loose.beyond i l

  padded : ZeroPadded width came
  padded =
      record {
        places = let l = back_long (32 + width) 16 line ys few room in let m = loose.places in omega arith;
        before = λ i h. back_before (32 + width) 16 line ys few room i (omega arith) ∙ loose.before i h;
        after = after;
      }

pub returns : goal.returns
returns c = padded c.args.width c.args.line.now c.requires.0 c.fill.new.self (c.fill.ensures.after (λ y h. h))
