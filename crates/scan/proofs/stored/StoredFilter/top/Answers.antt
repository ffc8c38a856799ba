-- The bits of an accepted table are at most 12.
use Rattle.std.proofs.Common.{rules, arith}
use lib.Pow.{pow_pos, pow_mono}
use Rattle.limits.proofs.Granted.{granted}
use Rattle.scan.proofs.Filters.{accepts}
use Rattle.scan.proofs.stored.StoredFilter.top.Goals as goal

pub overflow_sub-result : goal.overflow_sub-result
overflow_sub-result c =
    let b = (granted c.args.self.now.table (accepts c.args.self.now c.requires)).bits_most in
    let e = c.power.ensures.value (omega arith) in
    let p = pow_pos c.args.self.now.table.b in search (rules, e, p)

pub overflow_cast-result : goal.overflow_cast-result
overflow_cast-result c =
    let b = (granted c.args.self.now.table (accepts c.args.self.now c.requires)).bits_most in
    let e = c.power.ensures.value (omega arith) in
    let p = pow_mono b in search (rules, e, p)

pub returns : goal.returns
returns c =
    let b = (granted c.args.self.now.table (accepts c.args.self.now c.requires)).bits_most in
    let e = c.power.ensures.value (omega arith) in search (rules, e)
