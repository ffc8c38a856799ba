-- Bytes moved to the start of a store.
-- Assumes nothing.
use Rattle.std.proofs.Common.{ℕ, zero-add, ◌≡◌, refl, List, length, drop}
use Rattle.std.proofs.Math.Seq.{paste}
use Rattle.filtering.specs.Moves.{moved_count, moved}

pub moved_none : (s : List ℕ) (from end : ℕ) → moved_count (length s) from end ≡ 0 → s ≡ moved s from end
unfolding moved
moved_none s from end e = rw e refl

pub moved_is : (s : List ℕ) (from end n : ℕ) → n ≡ moved_count (length s) from end → paste s 0 (drop from s) n ≡ moved s from end
unfolding moved
moved_is s from end n e = rw (e, zero-add (moved_count (length s) from end)) refl
