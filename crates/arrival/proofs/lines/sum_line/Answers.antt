-- `arrival::sum_line` takes the running sums of the places from 32 on: the zeros before them add nothing, so each is the running sum of
-- the whole line.
-- Assumes nothing.
use Rattle.std.proofs.Common.{ℕ, suc, ◌+◌, ◌-◌, ◌%◌, ◌≤◌, ◌<◌, arith, ◌≡◌, sym, ap, ◌∙◌, Bool, true, false, not, List, T, ltb, ltb→lt, nltb→le, length, get_or}
use borrow.Rule.Slice.PartMut.{put_mid}
use Rattle.arith.specs.Tab.{tab}
use Rattle.arith.proofs.Tabs.{length-tab, get_or-tab}
use Rattle.arith.proofs.Parts.{part, part_at, part_length}
use Rattle.arith.proofs.Sums.{sum_cong, sum_split, sum_zero}
use Rattle.passes.specs.Passes.{prefix, running}
use Rattle.arrival.specs.Rectangles.{ZeroPadded, RunningSums}
use Rattle.arrival.proofs.Padded.{back_long, back_before, back_in, back_after}
use Rattle.arrival.proofs.lines.sum_line.Goals as goal

module _ (width : ℕ) (line : List ℕ) (padded : ZeroPadded width line) where
  abbrev lent : List ℕ
  lent = part 32 (width + 16) line

  room : 32 + (width + 16) ≤ length line
  room = let l = padded.places in omega arith

  lent-long : length lent ≡ width + 16
  lent-long = part_length 32 (width + 16) line room

  -- the sums up to a place of the first 32
  dark : (n : ℕ) → n ≤ 32 → prefix line n ≡ 0
  dark n h = sum_zero n (λ i l. padded.before i (omega arith))

  -- and to a place after them
  lit : (k : ℕ) → k < width + 16 → running lent k ≡ running line (32 + k)
  lit k h =
      let e : 32 + suc k ≡ suc (32 + k) = omega arith in
      let a = sum_cong (suc k) {f = λ j. get_or lent j 0} (λ j l. part_at 32 (width + 16) line j (omega arith)) in
      let b = sum_split 32 (suc k) (λ j. get_or line j 0) in
      let c = dark 32 (omega arith) in
      let d = ap (prefix line) e in
      ap (λ s. s % 4294967296) (omega arith)

  -- the line with the part come back
  module _ (ys : List ℕ) (is : ys ≡ tab (length lent) (running lent)) where
    few : length ys ≡ width + 16
    few = ap length is ∙ length-tab (length lent) _ ∙ lent-long

    abbrev came : List ℕ
    came = put_mid 32 (32 + (width + 16) - 32) line ys

    at : (i : ℕ) → i < width + 48 → get_or came i 0 ≡ running line i
    at i h = go (ltb i 32) (ltb→lt i 32) (nltb→le i 32)
      where
        go : (c : Bool) → (T c → i < 32) → (T (not c) → 32 ≤ i) → get_or came i 0 ≡ running line i
        go true y n =
            let l = y tt in
            back_before 32 (width + 16) line ys few room i l ∙ padded.before i l ∙ sym (ap (λ s. s % 4294967296) (dark (suc i) (omega arith)))
        go false y n =
            let l = n tt in
            let e : i ≡ 32 + (i - 32) = omega arith in
            let k : i - 32 < width + 16 = omega arith in
            ap (λ m. get_or came m 0) e ∙ back_in 32 (width + 16) line ys few room (i - 32) k ∙ ap (λ xs. get_or xs (i - 32) 0) is
            ∙ get_or-tab (length lent) (running lent) (i - 32) 0 (let n = lent-long in omega arith) ∙ lit (i - 32) k ∙ ap (running line) (sym e)

    summed : RunningSums width line came
    summed =
        record {
          places = back_long 32 (width + 16) line ys few room;
          sums = at;
          beyond = λ i h. back_after 32 (width + 16) line ys few room i (omega arith) ∙ padded.after i (omega arith);
        }

pub returns : goal.returns
returns c = summed c.args.width c.args.line.now c.requires.0 c.running_sums.new.line c.running_sums.ensures
