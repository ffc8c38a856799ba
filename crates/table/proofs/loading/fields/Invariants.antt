use Rattle.std.proofs.Common.{◌≡◌, ◌-◌, ◌≤◌, length}
use Rattle.layout.specs.Contents.{no_rects, contents, table_of}
use Rattle.table.specs.Format.{fields_of}
use Rattle.table.proofs.loading.fields.Given as goal

-- what is left of the file, read from here, comes to the whole
abbrev pub invariant-loop-rest : goal.invariant-loop-rest
invariant-loop-rest l = record {
  made : l.table ≡ table_of (contents l.table);
  few : l.table.count ≤ 16;
  same : fields_of (16 - l.table.count) l.rest (contents l.table)
      ≡ fields_of 16 l.bytes (no_rects l.fn.header.b l.fn.header.q1 l.fn.header.q2 l.fn.header.q3 l.fn.header.t l.fn.header.w);
}

abbrev pub decreases-loop-rest : goal.decreases-loop-rest
decreases-loop-rest l = length l.rest
