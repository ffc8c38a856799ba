-- `sametable::compare`: a first file that is refused gives its number, an accepted one its table.
-- Assumes nothing.
use Rattle.text.specs.Ascii.{ascii}
use Rattle.table.proofs.Sound.{read, not_read}
use Rattle.sametable.proofs.Said.{first_read, first_refused}
use Rattle.sametable.proofs.answers.compare.Goals as goal

pub returns-in-Err : goal.returns-in-Err
unfolding ascii
returns-in-Err c = rw (first_refused _ _ (not_read _ c.load.ensures c.in-Err.is), ← c.number.ensures) c.put_refused.ensures

pub returns-in-Ok : goal.returns-in-Ok
returns-in-Ok c = rw (first_read _ _ (read _ c.load.ensures c.in-Ok.is)) c.with_second.ensures
