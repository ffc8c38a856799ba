use Rattle.std.proofs.Common.{◌≡◌, ◌+◌, ◌*◌, ◌≤◌, length, drop, ◌++◌}
use Rattle.arith.specs.Tab.{tab}
use Rattle.layout.specs.Contents.{contents, rect}
use Rattle.table.specs.Format.{encode_head, encode_rects}
use Rattle.table.proofs.writing.put.Given as goal

-- the file so far, and beyond it what was there
abbrev pub invariant-loop-k : goal.invariant-loop-k
invariant-loop-k l = record {
  so_far : l.out ≡ (encode_head (contents l.fn.t) ++ encode_rects (tab l.k (rect l.fn.t))) ++ drop (9 + 9 * l.k) l.fn.out;
  room : 9 + 9 * l.fn.t.count ≤ length l.fn.out;
}
