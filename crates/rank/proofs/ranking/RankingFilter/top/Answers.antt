-- The bits of a sample are at most 8.
use Rattle.std.proofs.Common.{rules, arith}
use lib.Pow.{pow_pos, pow_mono}
use Rattle.rank.proofs.States.{bits_most}
use Rattle.rank.proofs.Filters.{accepts}
use Rattle.rank.proofs.ranking.RankingFilter.top.Goals as goal

pub overflow_sub-result : goal.overflow_sub-result
overflow_sub-result c =
    let b = bits_most (accepts c.args.self.now c.requires) in
    let e = c.power.ensures.value (omega arith) in
    let p = pow_pos c.args.self.now.b in search (rules, e, p)

pub overflow_cast-result : goal.overflow_cast-result
overflow_cast-result c =
    let b = bits_most (accepts c.args.self.now c.requires) in
    let e = c.power.ensures.value (omega arith) in
    let p = pow_mono b in search (rules, e, p)

pub returns : goal.returns
returns c =
    let b = bits_most (accepts c.args.self.now c.requires) in
    let e = c.power.ensures.value (omega arith) in search (rules, e)
