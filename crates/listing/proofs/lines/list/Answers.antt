-- A file that is refused gives its number, an accepted one its table.
-- Assumes nothing.
use Rattle.std.proofs.Common.{◌≡◌, ℕ, List, sym, ap, ◌∙◌, rules}
use Rattle.layout.specs.declared.Table.{Table}
use Rattle.table.specs.Format.{refused, load_of}
use Rattle.table.proofs.Sound.{Read, read, not_read}
use Rattle.listing.specs.Listing.{refused_line, table_lines, listing_of}
use Rattle.listing.proofs.lines.list.Goals as goal

listed : (bs : List ℕ) {t : Table} → Read bs t → listing_of (load_of bs) ≡ table_lines t
unfolding listing_of
listed bs r = ap listing_of r.is ∙ ap table_lines (sym r.table)

not_listed : (bs : List ℕ) {n p : ℕ} → load_of bs ≡ refused n p → listing_of (load_of bs) ≡ refused_line n
unfolding listing_of
not_listed bs e = ap listing_of e

pub put_table-requires-clause-b_value : goal.put_table-requires-clause-b_value
put_table-requires-clause-b_value c =
    let r = read _ c.load.ensures c.in-Ok.is in
    (r.head.bits, r.head.drops)

pub put_table-requires-clause-count_bound : goal.put_table-requires-clause-count_bound
put_table-requires-clause-count_bound c =
    let r = read _ c.load.ensures c.in-Ok.is in
    (r.few, search rules)

pub returns-in-Err : goal.returns-in-Err
returns-in-Err c =
    rw (not_listed _ (not_read _ c.load.ensures c.in-Err.is), ← c.number-number.ensures) c.put_refused.ensures

pub returns-in-Ok : goal.returns-in-Ok
returns-in-Ok c = rw (listed _ (read _ c.load.ensures c.in-Ok.is)) c.put_table.ensures
