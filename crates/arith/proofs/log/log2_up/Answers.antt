use Rattle.std.proofs.Common.{refl, sym, arith, ◌≡◌}
use Rattle.arith.specs.Log.{logs, log2up}
use Rattle.arith.proofs.Logs.{log_rule, log_beyond}
use Rattle.arith.proofs.log.log2_up.Goals as goal

pub returns-in-1-to-961-clause-value : goal.returns-in-1-to-961-clause-value
unfolding log2up logs
returns-in-1-to-961-clause-value c = refl

pub returns-in-1-to-961-clause-log_rule : goal.returns-in-1-to-961-clause-log_rule
unfolding log2up logs
returns-in-1-to-961-clause-log_rule c = log_rule c.args.n

pub returns-in_default-clause-value : goal.returns-in_default-clause-value
unfolding log2up logs
returns-in_default-clause-value c = let e : c.args.n ≡ 0 = omega arith in rw e refl

pub returns-in_default-2-clause-value : goal.returns-in_default-2-clause-value
returns-in_default-2-clause-value c = sym (log_beyond c.args.n (omega arith))
