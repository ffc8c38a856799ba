-- The name is put whole or not at all, so it is within the buffer.
-- Assumes nothing.
use Prim.Native.Nat.{ℕ, ◌+◌, ◌≤◌}
use native.Mathlib.Omega.{arith}
use mathlib.Core.Path.{◌≡◌, refl, sym}
use mathlib.Core.Bool.{Bool, true, false}
use mathlib.Core.List.{List}
use lib.Dec.{leb}
use lib.ListN.{length}
use lib.Seq.{length-take-le}
use borrow.Author.Tests.{leb-true, leb-false}
use Rattle.text.specs.Text.{put_text, put_end}
use Rattle.text.specs.Ascii.{ascii}
use Rattle.text.proofs.Puts.{put_said, no_room, kept}
use Rattle.streams.proofs.standard_name.Goals as goal

within : (o s : List ℕ) {o1 : List ℕ} {b : ℕ} → b ≡ put_end o 0 s → o1 ≡ put_text o 0 s → b ≤ length o1
within o s {o1} {b} e f = go (leb (0 + length s) (length o)) refl
  where
    go : (t : Bool) → leb (0 + length s) (length o) ≡ t → b ≤ length o1
    go true h = let p = put_said e f (leb-true _ _ h) in let k = kept p in let r = p.room in omega arith
    go false h = let n = no_room o 0 s (leb-false _ _ h) in let z = n.0 in omega arith

pub returns-clause-value : goal.returns-clause-value
unfolding ascii
returns-clause-value c = c.put_bytes.ensures.value

pub returns-clause-name_after : goal.returns-clause-name_after
unfolding ascii
returns-clause-name_after c = c.put_bytes.ensures.out_after

pub returns-clause-prefix_len : goal.returns-clause-prefix_len
unfolding ascii
returns-clause-prefix_len c =
    let e = c.put_bytes.ensures in
    let h = within _ _ e.value e.out_after in
    (h, sym (length-take-le _ _ h))
