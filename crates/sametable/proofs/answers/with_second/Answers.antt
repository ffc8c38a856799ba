-- `sametable::with_second`: a second file that is refused gives its number, an accepted one its table.
-- Assumes nothing.
use Rattle.text.specs.Ascii.{ascii}
use Rattle.table.proofs.Sound.{read, not_read}
use Rattle.sametable.proofs.Said.{second_read, second_refused}
use Rattle.sametable.proofs.answers.with_second.Goals as goal

pub returns-in-Err : goal.returns-in-Err
unfolding ascii
returns-in-Err c = rw (second_refused _ _ (not_read _ c.load.ensures c.in-Err.is), ← c.number.ensures) c.put_refused.ensures

pub returns-in-Ok : goal.returns-in-Ok
returns-in-Ok c = rw (second_read _ _ (read _ c.load.ensures c.in-Ok.is)) c.compared.ensures
