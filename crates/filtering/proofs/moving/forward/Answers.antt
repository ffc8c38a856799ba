-- What is moved, and what it leaves.
use Rattle.std.proofs.Common.{◌-◌, ◌∙◌, arith}
use Rattle.filtering.proofs.Stores.{moved_none, moved_is}
use Rattle.filtering.proofs.moving.forward.Goals as goal

pub returns-then-last-from-clause-store_after : goal.returns-then-last-from-clause-store_after
returns-then-last-from-clause-store_after c = moved_none c.args.store.now c.args.from c.args.end (omega arith)

pub returns-clause-store_after : goal.returns-clause-store_after
returns-clause-store_after c = c.copy_within.ensures.after ∙ moved_is c.args.store.now c.args.from c.args.end (c.min-last.result - c.args.from) (omega arith)
